-- Laws of the code, one for each way out of a function and for each bound that it asks.
use Rattle.std.specs.Prelude.{Some, None}
use Prim.Native.Nat.{ℕ, zero, suc, ◌+◌, ◌*◌, ◌-◌, ◌/◌, ◌%◌, ◌≤◌, ◌<◌}
use mathlib.Core.Path.{◌≡◌, refl, sym, ap, ◌∙◌, subst}
use mathlib.Core.Bool.{Bool, true, false, ◌||◌}
use native.Mathlib.Omega.{arith}
use lib.Dec.{T, eqb, leb, eqb→eq}
use borrow.Author.Tests.{eqb-true, eqb-false, le-leb, ne_eqb}
use mir.Syntax.{w8, w16, w64}
use mir.Val.{Fits}
use Rattle.octets.specs.Bytes.{if◌then◌otherwise◌}
use Rattle.calendar.specs.Calendar.{leap, month_days, days_before_year, days_before_month, day_number, is_date, day_of_date, date_of_day}
use Rattle.calendar.specs.Answers.{day_outcome, date_outcome}
use Rattle.calendar.specs.Steps.{InRange, lacks, lacking, long_start, long_day, Holds}
use Rattle.calendar.specs.Laws.{IsDate}
use Rattle.calendar.proofs.Months.{months_pass, month_step, month_full, month_short}
use Rattle.calendar.proofs.Years.{leap_four, year_sum, year_and_rest, rest_in_year}
use Rattle.calendar.proofs.Count.{number_to_last}
use Rattle.calendar.proofs.Conversions.{reflects_date, real, day_of_date_lem, refused_date, date_of_its_number}
use Rattle.calendar.proofs.LongYear.{start_is, lacks_none, lacks_some, in_long_year, month_of_day}

-- ---- the length of a month

module _ (y : ℕ) where
  by_turns : (k : ℕ) → k < 12 → T (eqb (suc k) 2 || eqb (30 + (suc k + suc k / 8) % 2) (month_days y (suc k)))
  unfolding leap month_days
  by_turns = months_pass 12 (λ f k. eqb (suc k) 2 || eqb (30 + (suc k + suc k / 8) % 2) (f (suc k))) tt tt y

  other_length : (m : ℕ) → 1 ≤ m → m ≤ 12 → (m ≡ 2 → ⊥) → 30 + (m + m / 8) % 2 ≡ month_days y m
  other_length zero h g n = absurd (omega arith)
  other_length (suc k) h g n =
      eqb→eq (30 + (suc k + suc k / 8) % 2) (month_days y (suc k))
      (subst (λ b. T (b || eqb (30 + (suc k + suc k / 8) % 2) (month_days y (suc k)))) (ne_eqb (suc k) 2 n) (by_turns k (omega arith)))

  february : (b : Bool) → b ≡ leap y → (if b then 29 otherwise 28) ≡ month_days y 2
  unfolding month_days
  february b e = rw e

module _ (y m d : ℕ) where
  pub in_other : 1 ≤ m → m ≤ 12 → (m ≡ 2 → ⊥) → leb d (30 + (m + m / 8) % 2) ≡ leb d (month_days y m)
  in_other h g n = ap (leb d) (other_length y m h g n)

  module _ (h : m ≡ 2) (b : Bool) (e : b ≡ leap y) where
    in_february : leb d (if b then 29 otherwise 28) ≡ leb d (month_days y m)
    in_february = ap (leb d) (february y b e ∙ ap (month_days y) (sym h))

    pub in_leap : b ≡ true → leb d 29 ≡ leb d (month_days y m)
    in_leap f = subst (λ b. leb d (if b then 29 otherwise 28) ≡ leb d (month_days y m)) f in_february

    pub in_common : b ≡ false → leb d 28 ≡ leb d (month_days y m)
    in_common f = subst (λ b. leb d (if b then 29 otherwise 28) ≡ leb d (month_days y m)) f in_february

  pub in_every : 1 ≤ m → m ≤ 12 → d ≤ 28 → true ≡ leb d (month_days y m)
  in_every h g l = sym (le-leb d (month_days y m) (omega (arith, month_full y m h g)))

-- ---- the number of a date

-- every fourth year has one day more, after its February and before the next year
lacks_four : (y : ℕ) → InRange y → (y - 2000 + 3) / 4 + 1 ≡ (y - 2000) / 4 + lacks y
unfolding lacks
lacks_four y r = subst (λ b. (y - 2000 + 3) / 4 + 1 ≡ (y - 2000) / 4 + (if b then 1 otherwise 2)) (leap_four y r) (go (eqb (y % 4) 0) refl)
  where
    go : (b : Bool) → eqb (y % 4) 0 ≡ b → (y - 2000 + 3) / 4 + 1 ≡ (y - 2000) / 4 + (if b then 1 otherwise 2)
    go true e = omega (arith, eqb-true (y % 4) 0 e)
    go false e = omega (arith, eqb-false (y % 4) 0 e)

module _ (y m : ℕ) (r : InRange y) where
  years_sum_lem : days_before_year y ≡ 365 * (y - 2000) + (y - 2000 + 3) / 4
  years_sum_lem = year_sum y r.from (omega (arith, r.to))

  pub early_years : m ≤ 2 → (1461 * (y - 2000) + 11) / 4 + lacking y m ≡ days_before_year y + 2
  early_years h = omega (arith, years_sum_lem, lacks_none y m h)

  pub late_years : 2 < m → (1461 * (y - 2000) + 4) / 4 + lacking y m ≡ days_before_year y + 2
  late_years h = omega (arith, years_sum_lem, lacks_some y m h, lacks_four y r)

module _ (y m d a s : ℕ) (i : IsDate y m d) (e : a + lacking y m ≡ days_before_year y + 2) (f : s ≡ long_start m) where
  number_and_three : a + s + d ≡ day_number y m d + 3
  unfolding day_number
  number_and_three = omega (arith, start_is y m (omega (arith, i.month_to_12)), i.day_from_1)

  number_low : day_number y m d ≤ 36524
  number_low = number_to_last (record { year = y; month = m; day = d }) (real y m d i) i.year_to_2099

  pub two_fit : Fits w64 (a + s)
  two_fit = omega (arith, number_and_three, number_low)

  pub three_fit : Fits w64 (a + s + d)
  three_fit = omega (arith, number_and_three, number_low)

  pub three_below : 3 ≤ a + s + d
  three_below = omega (arith, number_and_three)

  pub number_is : a + s + d - 3 ≡ day_number y m d
  number_is = omega (arith, number_and_three)

module _ (y m d : ℕ) (r : Bool) (e : r ≡ is_date y m d) where
  pub refused : r ≡ false → day_outcome None ≡ day_of_date y m d
  refused f = refused_date y m d ((reflects_date y m d).fails (sym e ∙ f))

  module _ (f : r ≡ true) where
    pub tested : IsDate y m d
    tested = (reflects_date y m d).holds (sym e ∙ f)

    module _ (n : ℕ) (g : n ≡ day_number y m d) where
      pub number_fits : Fits w16 n
      number_fits = omega (arith, number_to_last (record { year = y; month = m; day = d }) (real y m d tested) tested.year_to_2099)

      pub accepted_date : day_outcome (Some n) ≡ day_of_date y m d
      unfolding day_outcome
      accepted_date = rw g (sym (day_of_date_lem y m d tested))

-- ---- the date of a day

module _ (n u : ℕ) (h : n ≤ 36524) (e : u ≡ long_day (2000 + 4 * n / 1461) (4 * n % 1461 / 4)) where
  abbrev y : ℕ
  y = 2000 + 4 * n / 1461

  abbrev t : ℕ
  t = 4 * n % 1461 / 4

  pub day_in_long_year : u < 367
  day_in_long_year = omega (arith, in_long_year y t (rest_in_year n h))

  module _ (m s : ℕ) (i : Holds u m) (f : s ≡ long_start m) where
    place : (days_before_month y m + (long_day y t - long_start m) ≡ t) × (t < days_before_month y (m + 1))
    place = month_of_day y t m (subst (λ u. Holds u m) e i)

    day_to_last : u - s + 1 ≤ month_days y m
    day_to_last = omega (arith, place.0, place.1, month_step y m i.month_from_1)

    pub next_fits : Fits w64 (u - s + 1)
    next_fits = omega (arith, day_in_long_year)

    pub month_day_fits : Fits w8 (u - s + 1)
    month_day_fits = omega (arith, day_to_last, month_short y m i.month_from_1 i.month_to_12)

    found_date : IsDate y m (u - s + 1)
    found_date =
        record {
          year_from_2000 = omega arith;
          year_to_2099 = omega (arith, h);
          month_from_1 = i.month_from_1;
          month_to_12 = i.month_to_12;
          day_from_1 = omega arith;
          day_to_last = day_to_last;
        }

    found_number : day_number y m (u - s + 1) ≡ n
    unfolding day_number
    found_number = omega (arith, place.0, year_and_rest n h)

    pub accepted_day : date_outcome (Some (record { year = y; month = m; day = u - s + 1 })) ≡ date_of_day n
    unfolding date_outcome
    accepted_day = sym (date_of_its_number n y m (u - s + 1) h found_date found_number)
