-- The months of a year: those of 2000 in a leap year, those of 2001 in a common one.
use Prim.Native.Nat.{ℕ, zero, suc, ◌+◌, ◌-◌, ◌≤◌, ◌<◌}
use mathlib.Core.Path.{◌≡◌, refl, ap, ◌∙◌, fun_ext, subst⁻¹}
use mathlib.Core.Bool.{Bool, true, false}
use native.Mathlib.Omega.{arith}
use lib.Dec.{T, leb, leb→le}
use Rattle.octets.proofs.Test.{every, below}
use Rattle.calendar.specs.Calendar.{leap, year_days, month_days, months_sum, days_before_month}

-- ---- nothing counts but the kind of the year

months_alike : (y z : ℕ) → leap y ≡ leap z → month_days y ≡ month_days z
unfolding month_days
months_alike y z e = fun_ext (λ m. rw e)

sum_alike : (y z : ℕ) → month_days y ≡ month_days z → (k : ℕ) → months_sum y k ≡ months_sum z k
unfolding months_sum
sum_alike y z e zero = refl
sum_alike y z e (suc k) = rw (sum_alike y z e k, e)

pub sums_alike : (y z : ℕ) → leap y ≡ leap z → months_sum y ≡ months_sum z
sums_alike y z e = fun_ext (sum_alike y z (months_alike y z e))

pub starts_alike : (y z m : ℕ) → leap y ≡ leap z → days_before_month y m ≡ days_before_month z m
unfolding days_before_month
starts_alike y z m e = ap (λ f. f (m - 1)) (sums_alike y z e)

-- so what holds of 2000 and 2001 holds of every year
pub by_kind : (P : ℕ → Type 0) → ((y z : ℕ) → leap y ≡ leap z → P z → P y) → P 2000 → P 2001 → (y : ℕ) → P y
unfolding leap
by_kind P alike p q y = go (leap y) refl
  where
    go : (b : Bool) → leap y ≡ b → P y
    go true e = alike y 2000 e p
    go false e = alike y 2001 e q

-- and what passes a test that is computed for the two
module _ (n : ℕ) (f : (ℕ → ℕ) → ℕ → Bool) where
  abbrev Pass : (ℕ → ℕ) → Type 0
  Pass g = (k : ℕ) → k < n → T (f g k)

  pub months_pass : T (every n (f (month_days 2000))) → T (every n (f (month_days 2001))) → (y : ℕ) → Pass (month_days y)
  months_pass p q = by_kind (λ y. Pass (month_days y)) (λ y z e. subst⁻¹ Pass (months_alike y z e)) (below n _ p) (below n _ q)

-- ---- one month more

pub before_next : (y k : ℕ) → days_before_month y (k + 1) ≡ months_sum y k
unfolding days_before_month
before_next y k = ap (months_sum y) (omega arith)

pub month_step : (y m : ℕ) → 1 ≤ m → days_before_month y (m + 1) ≡ days_before_month y m + month_days y m
unfolding days_before_month months_sum
month_step y zero h = absurd (omega arith)
month_step y (suc k) h = before_next y (suc k) ∙ ap (λ j. months_sum y j + month_days y (suc k)) {x = k} {y = suc k - 1} (omega arith)

-- the months of a year are the year
pub year_months : (y : ℕ) → months_sum y 12 ≡ year_days y
unfolding months_sum month_days year_days
year_months y = go (leap y) refl
  where
    go : (b : Bool) → leap y ≡ b → months_sum y 12 ≡ year_days y
    go true e = rw e
    go false e = rw e

-- ---- how long months are

-- a month has from 28 to 31 days
pub month_full : (y m : ℕ) → 1 ≤ m → m ≤ 12 → 28 ≤ month_days y m
unfolding leap month_days
month_full y zero h g = absurd (omega arith)
month_full y (suc k) h g = leb→le 28 (month_days y (suc k)) (months_pass 12 (λ f k. leb 28 (f (suc k))) tt tt y k (omega arith))

pub month_long : (y m : ℕ) → 1 ≤ m → m ≤ 12 → 1 ≤ month_days y m
month_long y m h g = omega (arith, month_full y m h g)

pub month_short : (y m : ℕ) → 1 ≤ m → m ≤ 12 → month_days y m ≤ 31
unfolding leap month_days
month_short y zero h g = absurd (omega arith)
month_short y (suc k) h g = leb→le (month_days y (suc k)) 31 (months_pass 12 (λ f k. leb (f (suc k)) 31) tt tt y k (omega arith))
