-- Counting up from the first date and counting by sums undo each other, for every year from 2000 on.
use Prim.Native.Nat.{ℕ, zero, suc, ◌+◌, ◌-◌, ◌≤◌, ◌<◌}
use mathlib.Core.Path.{◌≡◌, refl, sym, ap, ◌∙◌}
use mathlib.Core.Bool.{Bool, true, false}
use native.Mathlib.Omega.{arith}
use native.Mathlib.Decide.{dec_lt}
use native.Mathlib.Nat.{le_trans, le_of_eq}
use lib.Dec.{ltb}
use borrow.Author.Tests.{ltb-true, ltb-false}
use Rattle.octets.specs.Bytes.{if◌then◌otherwise◌}
use Rattle.calendar.specs.Calendar.{year_days, month_days, years_sum, months_sum, days_before_year, days_before_month, day_number, Date, first_date, day_after, month_after, year_after, next_date, date_of}
use Rattle.calendar.specs.Laws.{Earlier, by_year, by_month, by_day}
use Rattle.calendar.proofs.Months.{before_next, month_step, year_months, month_long}
use Rattle.calendar.proofs.Years.{year_next, hundred_years}

-- a date of some year from 2000 on
pub record Real (x : Date) : Type 0 where
  pub year_from_2000 : 2000 ≤ x.year
  pub month_from_1 : 1 ≤ x.month
  pub month_to_12 : x.month ≤ 12
  pub day_from_1 : 1 ≤ x.day
  pub day_to_last : x.day ≤ month_days x.year x.month

abbrev pub number_of : Date → ℕ
number_of x = day_number x.year x.month x.day

-- ---- sums only grow

grows : (f : ℕ → ℕ) → ((k : ℕ) → f k ≤ f (suc k)) → (k l : ℕ) → k ≤ l → f k ≤ f l
grows f step k zero h = le_of_eq (ap f {x = k} {y = 0} (omega arith))
grows f step k (suc l) h = go (dec_lt k (suc l)) (grows f step k l)
  where
    go : Dec (k < suc l) → (k ≤ l → f k ≤ f l) → f k ≤ f (suc l)
    go (yes g) r = le_trans (r (omega arith)) (step l)
    go (no g) r = le_of_eq (ap f {x = k} {y = suc l} (omega arith))

pub months_grow : (y m n : ℕ) → m ≤ n → days_before_month y m ≤ days_before_month y n
unfolding days_before_month months_sum
months_grow y m n h = grows (months_sum y) (λ k. omega arith) (m - 1) (n - 1) (omega arith)

pub years_grow : (y z : ℕ) → y ≤ z → days_before_year y ≤ days_before_year z
unfolding days_before_year years_sum
years_grow y z h = grows years_sum (λ k. omega arith) (y - 2000) (z - 2000) (omega arith)

-- ---- the next date

-- by the three cases of a next date
pub next_cases : (P : Date → Type 0) (x : Date)
    → (x.day < month_days x.year x.month → P (day_after x))
    → (month_days x.year x.month ≤ x.day → x.month < 12 → P (month_after x))
    → (month_days x.year x.month ≤ x.day → 12 ≤ x.month → P (year_after x))
    → P (next_date x)
unfolding next_date
next_cases P x d m y = go (ltb x.day (month_days x.year x.month)) refl (ltb x.month 12) refl
  where
    go : (a : Bool) → ltb x.day (month_days x.year x.month) ≡ a → (b : Bool) → ltb x.month 12 ≡ b → P (if a then day_after x otherwise if b then month_after x otherwise year_after x)
    go true e b f = d (ltb-true x.day (month_days x.year x.month) e)
    go false e true f = m (ltb-false x.day (month_days x.year x.month) e) (ltb-true x.month 12 f)
    go false e false f = y (ltb-false x.day (month_days x.year x.month) e) (ltb-false x.month 12 f)

pub before_last : (y : ℕ) → days_before_month y 13 ≡ year_days y
before_last y = before_next y 12 ∙ year_months y

before_first : (y : ℕ) → days_before_month y 1 ≡ 0
unfolding days_before_month months_sum
before_first y = refl

module _ (x : Date) (r : Real x) where
  next_real : Real (next_date x)
  next_real =
      next_cases Real x
      (λ h. record { year_from_2000 = r.year_from_2000; month_from_1 = r.month_from_1; month_to_12 = r.month_to_12; day_from_1 = omega arith; day_to_last = omega arith })
      (λ h g. record { year_from_2000 = r.year_from_2000; month_from_1 = omega arith; month_to_12 = omega arith; day_from_1 = omega arith; day_to_last = month_long _ _ (omega arith) (omega arith) })
      (λ h g. record { year_from_2000 = omega arith; month_from_1 = omega arith; month_to_12 = omega arith; day_from_1 = omega arith; day_to_last = month_long _ _ (omega arith) (omega arith) })

  -- has the next number
  next_number : number_of (next_date x) ≡ suc (number_of x)
  unfolding day_number
  next_number =
      next_cases (λ z. number_of z ≡ suc (number_of x)) x
      (λ h. omega arith)
      (λ h g. omega (arith, month_step x.year x.month r.month_from_1))
      (λ h g. omega (arith, year_next x.year r.year_from_2000, before_last x.year, before_first (x.year + 1), month_step x.year x.month r.month_from_1, ap (days_before_month x.year) {x = x.month + 1} {y = 13} (omega arith)))

  -- is within its month and its year
  in_month : number_of x < days_before_year x.year + days_before_month x.year (x.month + 1)
  unfolding day_number
  in_month = omega (arith, month_step x.year x.month r.month_from_1)

  pub in_year : number_of x < days_before_year (x.year + 1)
  in_year = omega (arith, in_month, months_grow x.year (x.month + 1) 13 (omega arith), before_last x.year, year_next x.year r.year_from_2000)

-- ---- counting up

pub date_real : (n : ℕ) → Real (date_of n)
unfolding date_of first_date
date_real zero = record { year_from_2000 = omega arith; month_from_1 = omega arith; month_to_12 = omega arith; day_from_1 = omega arith; day_to_last = month_long _ _ (omega arith) (omega arith) }
date_real (suc n) = next_real (date_of n) (date_real n)

pub date_number : (n : ℕ) → number_of (date_of n) ≡ n
unfolding date_of first_date
date_number zero = unfold day_number days_before_year days_before_month years_sum months_sum in refl
date_number (suc n) = next_number (date_of n) (date_real n) ∙ ap suc (date_number n)

-- ---- the order of dates is that of their numbers

pub number_grows : (x z : Date) → Real x → Real z → Earlier x z → number_of x < number_of z
unfolding day_number
number_grows x z r q (by_year h) = omega (arith, in_year x r, years_grow (x.year + 1) z.year (omega arith))
number_grows x z r q (by_month e h) = omega (arith, in_month x r, months_grow z.year (x.month + 1) z.month (omega arith), ap days_before_year e, ap (λ y. days_before_month y (x.month + 1)) e)
number_grows x z r q (by_day e f h) = omega (arith, r.day_from_1, ap days_before_year e, ap (λ y. days_before_month y x.month) e, ap (days_before_month z.year) f)

neither : (a b : ℕ) → (a < b → ⊥) → (b < a → ⊥) → a ≡ b
neither a b h g = omega arith

-- no two dates have one number
same_number : (x z : Date) → Real x → Real z → number_of x ≡ number_of z → x ≡ z
same_number x z r q e =
    let y : x.year ≡ z.year = neither x.year z.year (λ h. omega (arith, number_grows x z r q (by_year h))) (λ h. omega (arith, number_grows z x q r (by_year h))) in
    let m : x.month ≡ z.month = neither x.month z.month (λ h. omega (arith, number_grows x z r q (by_month y h))) (λ h. omega (arith, number_grows z x q r (by_month (sym y) h))) in
    let d : x.day ≡ z.day = neither x.day z.day (λ h. omega (arith, number_grows x z r q (by_day y m h))) (λ h. omega (arith, number_grows z x q r (by_day (sym y) (sym m) h))) in
    λ i. record { year = y i; month = m i; day = d i }

pub date_of_number : (x : Date) → Real x → date_of (number_of x) ≡ x
date_of_number x r = same_number (date_of (number_of x)) x (date_real (number_of x)) r (date_number (number_of x))

-- ---- the last year

module _ (x : Date) (r : Real x) where
  pub number_to_last : x.year ≤ 2099 → number_of x ≤ 36524
  number_to_last h = omega (arith, in_year x r, years_grow (x.year + 1) 2100 (omega arith), hundred_years)

  pub year_to_last : number_of x ≤ 36524 → x.year ≤ 2099
  year_to_last h = go (dec_lt 2099 x.year)
    where
      year_begun : days_before_year x.year ≤ number_of x
      year_begun = unfold day_number in omega arith

      go : Dec (2099 < x.year) → x.year ≤ 2099
      go (yes g) = absurd (omega (arith, year_begun, years_grow 2100 x.year (omega arith), hundred_years))
      go (no g) = omega arith
