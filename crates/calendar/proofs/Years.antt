-- The years of the calendar: every fourth is a leap year, and the days before a year in closed form.
use Prim.Native.Nat.{ℕ, zero, suc, ◌+◌, ◌*◌, ◌-◌, ◌/◌, ◌%◌, ◌≤◌, ◌<◌}
use mathlib.Core.Path.{◌≡◌, refl, ap, ◌∙◌}
use mathlib.Core.Bool.{Bool, true, false, not}
use native.Mathlib.Omega.{arith}
use lib.Dec.{T, eqb}
use borrow.Author.Tests.{eqb-true, eqb-false}
use Rattle.octets.specs.Bytes.{if◌then◌otherwise◌}
use Rattle.octets.proofs.Test.{below}
use Rattle.calendar.specs.Calendar.{leap, year_days, years_sum, days_before_year}
use Rattle.calendar.specs.Steps.{InRange}

abbrev agree : Bool → Bool → Bool
agree true b = b
agree false b = not b

agree_same : (a b : Bool) → T (agree a b) → a ≡ b
agree_same true true t = refl
agree_same true false t = absurd t
agree_same false true t = absurd t
agree_same false false t = refl

-- every fourth year of the hundred is a leap year
fourth : (k : ℕ) → k < 100 → eqb (k % 4) 0 ≡ leap (2000 + k)
unfolding leap
fourth k h = agree_same (eqb (k % 4) 0) (leap (2000 + k)) (below 100 (λ k. agree (eqb (k % 4) 0) (leap (2000 + k))) tt k h)

pub leap_four : (y : ℕ) → InRange y → eqb (y % 4) 0 ≡ leap y
leap_four y r =
    ap (λ n. eqb n 0) {x = y % 4} {y = (y - 2000) % 4} (omega arith)
    ∙ fourth (y - 2000) (omega arith)
    ∙ ap leap {x = 2000 + (y - 2000)} {y = y} (omega arith)

-- the days of the first k years
year_step : (k : ℕ) (b : Bool) → eqb (k % 4) 0 ≡ b → 365 * k + (k + 3) / 4 + (if b then 366 otherwise 365) ≡ 365 * suc k + (suc k + 3) / 4
year_step k true e = omega (arith, eqb-true (k % 4) 0 e)
year_step k false e = omega (arith, eqb-false (k % 4) 0 e)

pub years_sum_lem : (k : ℕ) → k ≤ 100 → years_sum k ≡ 365 * k + (k + 3) / 4
unfolding years_sum year_days
years_sum_lem zero h = refl
years_sum_lem (suc k) h = rw (years_sum_lem k (omega arith)) (year_step k (leap (2000 + k)) (fourth k (omega arith)))

pub year_sum : (y : ℕ) → 2000 ≤ y → y ≤ 2100 → days_before_year y ≡ 365 * (y - 2000) + (y - 2000 + 3) / 4
unfolding days_before_year
year_sum y h g = years_sum_lem (y - 2000) (omega arith)

pub year_next : (y : ℕ) → 2000 ≤ y → days_before_year (y + 1) ≡ days_before_year y + year_days y
unfolding days_before_year years_sum
year_next y h =
    ap years_sum {x = y + 1 - 2000} {y = suc (y - 2000)} (omega arith)
    ∙ ap (λ z. years_sum (y - 2000) + year_days z) {x = 2000 + (y - 2000)} {y = y} (omega arith)

-- the day after the last
pub hundred_years : days_before_year 2100 ≡ 36525
hundred_years = year_sum 2100 (omega arith) (omega arith)

-- ---- the year of day n, and the day of that year: four years are 1461 days

module _ (n : ℕ) (h : n ≤ 36524) where
  pub year_of : InRange (2000 + 4 * n / 1461)
  year_of = record { from = omega arith; to = omega arith }

  -- the days before the year and those of the year make up the day
  pub year_and_rest : days_before_year (2000 + 4 * n / 1461) + 4 * n % 1461 / 4 ≡ n
  year_and_rest = omega (arith, year_sum (2000 + 4 * n / 1461) (omega arith) (omega arith))

  -- the year has that day
  pub rest_in_year : 4 * n % 1461 / 4 < year_days (2000 + 4 * n / 1461)
  rest_in_year =
      omega (
        arith,
        year_and_rest,
        year_next (2000 + 4 * n / 1461) (omega arith),
        year_sum (2000 + 4 * n / 1461 + 1) (omega arith) (omega arith),
      )
