-- The laws of the calendar hold.
use Prim.Native.Nat.{ℕ, suc, ◌+◌, ◌%◌, ◌≤◌, ◌<◌}
use mathlib.Core.Path.{◌≡◌, refl, sym, ap, ◌∙◌, subst, subst₂}
use mathlib.Core.Bool.{Bool, true, false}
use mathlib.Core.List.{[], ◌∷◌}
use mathlib.Core.Logic.{◌↔◌, ◌⊎◌, inl, inr, ⊎_elim}
use native.Mathlib.Omega.{arith}
use native.Mathlib.Numerals.{add-one}
use native.Mathlib.Decide.{dec_le}
use Rattle.octets.specs.Clauses.{◌when◌, Answers, Exactly}
use Rattle.octets.proofs.Clauses.{Reflects, reflects_not, reflects_and, reflects_or, reflects_yes, reflects_no, reflects_as, reflects_eqb, answers_same}
use Rattle.calendar.specs.Calendar.{leap, year_days, month_days, years_sum, months_sum, days_before_year, days_before_month, day_number, Date, first_date, date_of, DateOutcome, is_date, day_of_date, date_of_day}
use Rattle.calendar.specs.Answers.{day_outcome, date_outcome}
use Rattle.calendar.specs.Laws.{IsLeap, IsDate, Follows, same_month, next_month, next_year, Earlier, by_year, by_month, by_day, first, firsts, lengths, CalendarWords, CalendarLaws}
use Rattle.calendar.proofs.Months.{month_long, starts_alike}
use Rattle.calendar.proofs.Count.{Real, next_cases, date_real, date_number, number_grows, year_to_last, number_to_last}
use Rattle.calendar.proofs.Conversions.{reflects_date, real, day_of_date_lem, refused_date, date_of_day_lem, refused_day, date_of_its_number}

-- ---- the leap rule

reflects_leap : (y : ℕ) → Reflects (leap y) (IsLeap y)
unfolding leap
reflects_leap y =
    reflects_as (λ h. record { by_4 = h.0; not_by_100_or_by_400 = h.1 }) (λ h. (h.by_4, h.not_by_100_or_by_400))
    (reflects_and (reflects_eqb (y % 4) 0) (reflects_or (reflects_not (reflects_eqb (y % 100) 0)) (reflects_eqb (y % 400) 0)))

-- ---- which numbers the conversions answer

known : {t : Bool} {P : Type 0} → Reflects t P → Dec P
known {t = true} r = yes (r.holds refl)
known {t = false} r = no (r.fails refl)

exactly : (m : ℕ) (P : Type 0) → (P × (m ≡ 11)) ⊎ ((P → ⊥) × (m ≡ 0)) → Exactly m ((11 when P) ∷ [])
unfolding Answers
exactly m P h = record { answers = λ n. (λ e. subst (Answers ((11 when P) ∷ [])) e h, answers_same ((11 when P) ∷ []) m n h) }

module _ (y m d : ℕ) where
  no_such_date : (IsDate y m d → ⊥) → day_of_date y m d ≡ record { number = 11; day = 0 }
  unfolding day_outcome
  no_such_date h = sym (refused_date y m d h)

  dated : IsDate y m d → (day_of_date y m d).number ≡ 0
  dated h = ap (λ o. o.number) (day_of_date_lem y m d h)

  undated : (IsDate y m d → ⊥) → (day_of_date y m d).number ≡ 11
  undated h = ap (λ o. o.number) (no_such_date h)

  date_exactly : Exactly (day_of_date y m d).number ((11 when (IsDate y m d → ⊥)) ∷ [])
  date_exactly = exactly (day_of_date y m d).number (IsDate y m d → ⊥) (go (known (reflects_date y m d)))
    where
      go : Dec (IsDate y m d) → ((IsDate y m d → ⊥) × ((day_of_date y m d).number ≡ 11)) ⊎ (((IsDate y m d → ⊥) → ⊥) × ((day_of_date y m d).number ≡ 0))
      go (yes h) = inr ((λ n. n h), dated h)
      go (no n) = inl (n, undated n)

  date_accepted : ((day_of_date y m d).number ≡ 0) ↔ IsDate y m d
  date_accepted = (go (known (reflects_date y m d)), dated)
    where
      go : Dec (IsDate y m d) → (day_of_date y m d).number ≡ 0 → IsDate y m d
      go (yes h) e = h
      go (no n) e = absurd (omega (arith, undated n))

module _ (n : ℕ) where
  no_such_day : 36524 < n → date_of_day n ≡ record { number = 11; year = 0; month = 0; day = 0 }
  unfolding date_outcome
  no_such_day h = sym (refused_day n h)

  counted : n ≤ 36524 → (date_of_day n).number ≡ 0
  counted h = ap (λ o. o.number) (date_of_day_lem n h)

  uncounted : 36524 < n → (date_of_day n).number ≡ 11
  uncounted h = ap (λ o. o.number) (no_such_day h)

  day_exactly : Exactly (date_of_day n).number ((11 when (36524 < n)) ∷ [])
  day_exactly = exactly (date_of_day n).number (36524 < n) (go (dec_le n 36524))
    where
      go : Dec (n ≤ 36524) → ((36524 < n) × ((date_of_day n).number ≡ 11)) ⊎ ((36524 < n → ⊥) × ((date_of_day n).number ≡ 0))
      go (yes h) = inr ((λ g. omega arith), counted h)
      go (no h) = inl (omega arith, uncounted (omega arith))

  day_accepted : ((date_of_day n).number ≡ 0) ↔ (n ≤ 36524)
  day_accepted = (go (dec_le n 36524), counted)
    where
      go : Dec (n ≤ 36524) → (date_of_day n).number ≡ 0 → n ≤ 36524
      go (yes h) e = h
      go (no h) e = absurd (omega (arith, uncounted (omega arith)))

-- ---- each undoes the other

module _ (n : ℕ) (h : n ≤ 36524) where
  found : IsDate (date_of n).year (date_of n).month (date_of n).day
  found =
      let r : Real (date_of n) = date_real n in
      record {
        year_from_2000 = r.year_from_2000;
        year_to_2099 = year_to_last (date_of n) r (omega (arith, date_number n));
        month_from_1 = r.month_from_1;
        month_to_12 = r.month_to_12;
        day_from_1 = r.day_from_1;
        day_to_last = r.day_to_last;
      }

  day_of_its_date : day_of_date (date_of_day n).year (date_of_day n).month (date_of_day n).day ≡ record { number = 0; day = n }
  day_of_its_date =
      ap (λ o. day_of_date o.year o.month o.day) (date_of_day_lem n h)
      ∙ day_of_date_lem (date_of n).year (date_of n).month (date_of n).day found
      ∙ ap (λ k. record { number = 0; day = k }) (date_number n)

date_of_its_day : (y m d : ℕ) → IsDate y m d → date_of_day (day_of_date y m d).day ≡ record { number = 0; year = y; month = m; day = d }
date_of_its_day y m d h =
    ap (λ o. date_of_day o.day) (day_of_date_lem y m d h)
    ∙ date_of_its_number (day_number y m d) y m d (number_to_last (record { year = y; month = m; day = d }) (real y m d h) h.year_to_2099) h refl

-- ---- the next day, and the order

abbrev shown : Date → DateOutcome
shown x = record { number = 0; year = x.year; month = x.month; day = x.day }

december : (y : ℕ) → month_days y 12 ≡ 31
unfolding month_days
december y = refl

next_follows : (n : ℕ) → Follows (shown (date_of n)) (shown (date_of (suc n)))
unfolding date_of
next_follows n =
    let x = date_of n in
    let r : Real x = date_real n in
    next_cases (λ z. Follows (shown x) (shown z)) x
    (λ h. same_month h refl refl refl)
    (λ h g. next_month (omega arith) g refl refl refl)
    (λ h g. next_year (omega (arith, december x.year, ap (month_days x.year) {x = x.month} {y = 12} (omega arith))) (omega arith) refl refl refl)

follows : (n : ℕ) → n < 36524 → Follows (date_of_day n) (date_of_day (n + 1))
follows n h =
    subst₂ Follows (sym (date_of_day_lem n (omega arith))) (sym (date_of_day_lem (n + 1) (omega arith)))
    (rw (add-one n) (next_follows n))

earlier : (x z : Date) → IsDate x.year x.month x.day → IsDate z.year z.month z.day → Earlier x z
    → (day_of_date x.year x.month x.day).day < (day_of_date z.year z.month z.day).day
earlier x z h g e =
    omega (
      arith,
      ap (λ o. o.day) (day_of_date_lem x.year x.month x.day h),
      ap (λ o. o.day) (day_of_date_lem z.year z.month z.day g),
      number_grows x z (real x.year x.month x.day h) (real z.year z.month z.day g) e,
    )

-- ---- the firsts of the months

first_number : (y m : ℕ) → 2000 ≤ y → y ≤ 2099 → 1 ≤ m → m ≤ 12 → first y m ≡ days_before_year y + days_before_month y m
unfolding first day_number
first_number y m y₀ y₁ m₀ m₁ =
    omega (
      arith,
      ap (λ o. o.day)
          (day_of_date_lem y m 1 (record { year_from_2000 = y₀; year_to_2099 = y₁; month_from_1 = m₀; month_to_12 = m₁; day_from_1 = omega arith; day_to_last = month_long y m m₀ m₁ })),
    )

same_months : (y z : ℕ) → 2000 ≤ y → y ≤ 2099 → 2000 ≤ z → z ≤ 2099 → leap y ≡ leap z
    → (m : ℕ) → 1 ≤ m → m ≤ 12 → first y m + first z 1 ≡ first z m + first y 1
same_months y z y₀ y₁ z₀ z₁ e m m₀ m₁ =
    omega (
      arith,
      first_number y m y₀ y₁ m₀ m₁,
      first_number z m z₀ z₁ m₀ m₁,
      first_number y 1 y₀ y₁ (omega arith) (omega arith),
      first_number z 1 z₀ z₁ (omega arith) (omega arith),
      starts_alike y z m e,
      starts_alike y z 1 e,
    )

-- ---- the words, written out

leap_lengths : (y : ℕ) → IsLeap y → lengths y ≡ 31 ∷ 29 ∷ 31 ∷ 30 ∷ 31 ∷ 30 ∷ 31 ∷ 31 ∷ 30 ∷ 31 ∷ 30 ∷ 31 ∷ []
unfolding lengths month_days
leap_lengths y l = rw (reflects_yes (reflects_leap y) l)

common_lengths : (y : ℕ) → (IsLeap y → ⊥) → lengths y ≡ 31 ∷ 28 ∷ 31 ∷ 30 ∷ 31 ∷ 30 ∷ 31 ∷ 31 ∷ 30 ∷ 31 ∷ 30 ∷ 31 ∷ []
unfolding lengths month_days
common_lengths y l = rw (reflects_no (reflects_leap y) l)

says_follows : (x z : DateOutcome) → Follows x z
    → ((z.year ≡ x.year) × (z.month ≡ x.month) × (z.day ≡ x.day + 1))
    ⊎ (((z.year ≡ x.year) × (z.month ≡ x.month + 1) × (z.day ≡ 1))
    ⊎ ((z.year ≡ x.year + 1) × (z.month ≡ 1) × (z.day ≡ 1)))
says_follows x z (same_month h a b c) = inl (a, b, c)
says_follows x z (next_month h g a b c) = inr (inl (a, b, c))
says_follows x z (next_year h g a b c) = inr (inr (a, b, c))

words : CalendarWords
words =
    record {
      is_leap = λ y. (λ l. (l.by_4, l.not_by_100_or_by_400), λ h. record { by_4 = h.0; not_by_100_or_by_400 = h.1 });
      is_date_lem = λ y m d. (
        λ h. (h.year_from_2000, h.year_to_2099, h.month_from_1, h.month_to_12, h.day_from_1, h.day_to_last),
        λ h. record { year_from_2000 = h.0; year_to_2099 = h.1; month_from_1 = h.2; month_to_12 = h.3; day_from_1 = h.4; day_to_last = h.5 },
      );
      leap_lengths = leap_lengths;
      common_lengths = common_lengths;
      is_earlier = λ x z. ⊎_elim by_year (λ h. ⊎_elim (by_month h.0) (λ g. by_day h.0 g.0 g.1) h.1);
      says_follows = says_follows;
    }

-- ---- all of them

pub calendar_laws : CalendarLaws
unfolding leap year_days month_days years_sum months_sum days_before_year days_before_month day_number first_date is_date day_of_date first firsts day_outcome date_outcome
calendar_laws =
    record {
      words = words;
      carries_day = λ n. refl;
      carries_no_day = refl;
      carries_date = λ y m d. refl;
      carries_no_date = refl;
      leap_rule = λ y. ((reflects_leap y).holds, reflects_yes (reflects_leap y));
      leap_1900 = refl;
      leap_2000 = refl;
      leap_2001 = refl;
      leap_2004 = refl;
      leap_2100 = refl;
      leap_2400 = refl;
      date_exactly = date_exactly;
      date_accepted = date_accepted;
      date_refused = no_such_date;
      day_exactly = day_exactly;
      day_accepted = day_accepted;
      day_refused = no_such_day;
      day_of_its_date = day_of_its_date;
      date_of_its_day = date_of_its_day;
      first_day = refl;
      first_date_lem = date_of_its_number 0 2000 1 1 (omega arith) ((date_accepted 2000 1 1).0 refl) refl;
      last_day = refl;
      last_date = date_of_its_number 36524 2099 12 31 (omega arith) ((date_accepted 2099 12 31).0 refl) refl;
      follows = follows;
      earlier = earlier;
      firsts_2000 = refl;
      firsts_2001 = refl;
      leap_months = λ y y₀ y₁ l. same_months y 2000 y₀ y₁ (omega arith) (omega arith) (reflects_yes (reflects_leap y) l);
      common_months = λ y y₀ y₁ l. same_months y 2001 y₀ y₁ (omega arith) (omega arith) (reflects_no (reflects_leap y) l);
    }
