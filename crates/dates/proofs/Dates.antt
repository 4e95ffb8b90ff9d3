-- A date's text gives the date back, and no other text gives one.
use Prim.Native.Nat.{ℕ, ◌+◌, ◌*◌, ◌/◌, ◌%◌, ◌≤◌, ◌<◌}
use mathlib.Core.Path.{◌≡◌, refl, ap, ◌∙◌}
use mathlib.Core.Bool.{Bool, true, false}
use mathlib.Core.List.{List}
use native.Mathlib.Omega.{arith}
use lib.Dec.{eqb}
use Rattle.octets.specs.Bytes.{same}
use Rattle.octets.proofs.Clauses.{Reflects, reflects_as, reflects_eqb}
use Rattle.octets.proofs.Compare.{same_self, same_is}
use Rattle.calendar.specs.Calendar.{leap, year_days, month_days, years_sum, months_sum, days_before_year, days_before_month, day_number, is_date, DayOutcome, DateOutcome, day_of_date, date_of_day}
use Rattle.calendar.specs.Laws.{IsDate}
use Rattle.calendar.proofs.Laws.{calendar_laws}
use Rattle.calendar.proofs.Months.{month_short}
use Rattle.dates.specs.DateText.{date_text, day_text, digit_at, two_at, year_in, day_of_text}
use Rattle.dates.specs.Laws.{spelled, NoDateText, DateTexts}

digit_back : (a : ℕ) → a < 10 → (48 + a) % 16 ≡ a
digit_back a h = omega arith

two_back : (n a b : ℕ) → a < 10 → b < 10 → 10 * a + b ≡ n → 10 * ((48 + a) % 16) + (48 + b) % 16 ≡ n
two_back n a b h g e = rw (digit_back a h, digit_back b g) e

-- ---- a date of the calendar

module _ (y m d : ℕ) (h : IsDate y m d) where
  day_short : d ≤ 31
  day_short = omega (arith, h.day_to_last, month_short y m h.month_from_1 h.month_to_12)

  is_spelled : date_text y m d ≡ spelled y m d
  unfolding date_text
  is_spelled =
      let year : y / 1000 % 10 ≡ y / 1000 = omega (arith, h.year_to_2099) in
      let month : m / 10 % 10 ≡ m / 10 = omega (arith, h.month_to_12) in
      let day : d / 10 % 10 ≡ d / 10 = omega (arith, day_short) in
      rw (year, month, day)

  year_back : year_in (date_text y m d) ≡ y
  unfolding year_in two_at digit_at date_text
  year_back =
      let high : 10 * ((48 + y / 1000 % 10) % 16) + (48 + y / 100 % 10) % 16 ≡ y / 100 =
      two_back (y / 100) (y / 1000 % 10) (y / 100 % 10) (omega arith) (omega arith) (omega (arith, h.year_to_2099)) in
      let low : 10 * ((48 + y / 10 % 10) % 16) + (48 + y % 10) % 16 ≡ y % 100 =
      two_back (y % 100) (y / 10 % 10) (y % 10) (omega arith) (omega arith) (omega arith) in
      rw (high, low) (omega arith)

  month_back : two_at (date_text y m d) 5 ≡ m
  unfolding two_at digit_at date_text
  month_back = two_back m (m / 10 % 10) (m % 10) (omega arith) (omega arith) (omega (arith, h.month_to_12))

  day_of_month_back : two_at (date_text y m d) 8 ≡ d
  unfolding two_at digit_at date_text
  day_of_month_back = two_back d (d / 10 % 10) (d % 10) (omega arith) (omega arith) (omega (arith, day_short))

  taken : day_of_text (spelled y m d) ≡ day_of_date y m d
  unfolding day_of_text
  taken = rw (← is_spelled, year_back, month_back, day_of_month_back, same_self (date_text y m d))

module _ (y m d : ℕ) (h : IsDate y m d) where
  text_back : day_text (day_of_text (spelled y m d)).day ≡ spelled y m d
  unfolding day_text
  text_back =
      ap (λ (a : DayOutcome). day_text a.day) (taken y m d h)
      ∙ ap (λ (a : DateOutcome). date_text a.year a.month a.day) (calendar_laws.date_of_its_day y m d h)
      ∙ is_spelled y m d h

-- ---- any text

-- x is the text of a date of the calendar
pub record IsDateText (x : List ℕ) : Type 0 where
  pub year : ℕ
  pub month : ℕ
  pub day : ℕ
  pub is_date_lem : IsDate year month day
  pub text : x ≡ spelled year month day

module _ (x : List ℕ) where
  pub taken_number : IsDateText x → (day_of_text x).number ≡ 0
  taken_number h =
      ap (λ (w : List ℕ). (day_of_text w).number) h.text
      ∙ ap (λ (o : DayOutcome). o.number) (taken h.year h.month h.day h.is_date_lem)
      ∙ (calendar_laws.date_accepted h.year h.month h.day).1 h.is_date_lem

  number_taken : (day_of_text x).number ≡ 0 → IsDateText x
  unfolding day_of_text
  number_taken h = go (same x (date_text (year_in x) (two_at x 5) (two_at x 8))) refl h
    where
      go : (b : Bool) → same x (date_text (year_in x) (two_at x 5) (two_at x 8)) ≡ b → (day_of_text x).number ≡ 0 → IsDateText x
      go true e g =
          let date : IsDate (year_in x) (two_at x 5) (two_at x 8) = (calendar_laws.date_accepted (year_in x) (two_at x 5) (two_at x 8)).0 (rw e at g) in
          record {
            year = year_in x;
            month = two_at x 5;
            day = two_at x 8;
            is_date_lem = date;
            text = same_is x (date_text (year_in x) (two_at x 5) (two_at x 8)) e ∙ is_spelled (year_in x) (two_at x 5) (two_at x 8) date;
          }
      go false e g = let n : ◌≡◌ {A = ℕ} 11 0 = rw e at g in absurd (omega arith)

  pub reflects_text : Reflects (eqb (day_of_text x).number 0) (IsDateText x)
  reflects_text = reflects_as number_taken taken_number (reflects_eqb (day_of_text x).number 0)

  refused : NoDateText x → day_of_text x ≡ record { number = 11; day = 0 }
  unfolding day_of_text
  refused n = go (same x (date_text (year_in x) (two_at x 5) (two_at x 8))) refl
    where
      go : (b : Bool) → same x (date_text (year_in x) (two_at x 5) (two_at x 8)) ≡ b → day_of_text x ≡ record { number = 11; day = 0 }
      go true e =
          rw e
          (calendar_laws.date_refused (year_in x) (two_at x 5) (two_at x 8)
          (λ date.
          n (year_in x) (two_at x 5) (two_at x 8) date (same_is x (date_text (year_in x) (two_at x 5) (two_at x 8)) e ∙ is_spelled (year_in x) (two_at x 5) (two_at x 8) date)))
      go false e = rw e

-- ---- a day of the calendar

module _ (n : ℕ) (l : n ≤ 36524) where
  its_date : IsDate (date_of_day n).year (date_of_day n).month (date_of_day n).day
  its_date =
      (calendar_laws.date_accepted (date_of_day n).year (date_of_day n).month (date_of_day n).day).0
      (ap (λ (o : DayOutcome). o.number) (calendar_laws.day_of_its_date n l))

  its_text : day_text n ≡ spelled (date_of_day n).year (date_of_day n).month (date_of_day n).day
  unfolding day_text
  its_text = is_spelled (date_of_day n).year (date_of_day n).month (date_of_day n).day its_date

  pub day_text_lem : IsDateText (day_text n)
  day_text_lem = record { year = (date_of_day n).year; month = (date_of_day n).month; day = (date_of_day n).day; is_date_lem = its_date; text = its_text }

  pub day_back : day_of_text (day_text n) ≡ record { number = 0; day = n }
  day_back = ap day_of_text its_text ∙ taken (date_of_day n).year (date_of_day n).month (date_of_day n).day its_date ∙ calendar_laws.day_of_its_date n l

-- ---- in plain values

no_text : (n : ℕ) → 36524 < n → day_text n ≡ date_text 0 0 0
unfolding day_text
no_text n h = ap (λ (o : DateOutcome). date_text o.year o.month o.day) (calendar_laws.day_refused n h)

first_text : day_text 0 ≡ date_text 2000 1 1
unfolding day_text
first_text = ap (λ (o : DateOutcome). date_text o.year o.month o.day) calendar_laws.first_date_lem

last_text : day_text 36524 ≡ date_text 2099 12 31
unfolding day_text
last_text = ap (λ (o : DateOutcome). date_text o.year o.month o.day) calendar_laws.last_date

pub date_texts : DateTexts
unfolding date_text two_at digit_at year_in day_of_text same leap year_days month_days years_sum months_sum days_before_year days_before_month day_number is_date day_of_date
date_texts =
    record {
      taken = taken;
      refused = refused;
      its_text = its_text;
      no_text = no_text;
      day_back = day_back;
      text_back = text_back;
      first_text = first_text;
      last_text = last_text;
      leap_day = refl;
      no_day = refl;
      short_month = refl;
      line_feed_after = refl;
    }
