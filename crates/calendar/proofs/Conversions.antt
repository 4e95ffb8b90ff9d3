-- The two conversions by their definitions, accepted and refused.
use Prim.Native.Nat.{ℕ, ◌≤◌, ◌<◌}
use Rattle.std.specs.Prelude.{None}
use mathlib.Core.Path.{◌≡◌, sym, ap, ◌∙◌}
use borrow.Author.Tests.{le-leb, lt-leb}
use Rattle.octets.proofs.Bool.{if_true, if_false}
use Rattle.octets.proofs.Clauses.{Reflects, reflects_and, reflects_yes, reflects_no, reflects_as, reflects_leb}
use Rattle.calendar.specs.Calendar.{month_days, day_number, date_of, is_date, day_of_date, date_of_day}
use Rattle.calendar.specs.Answers.{day_outcome, date_outcome}
use Rattle.calendar.specs.Laws.{IsDate}
use Rattle.calendar.proofs.Count.{Real, date_of_number}

-- ---- from a date

module _ (y m d : ℕ) where
  pub reflects_date : Reflects (is_date y m d) (IsDate y m d)
  unfolding is_date
  reflects_date =
      reflects_as
      (λ h. record { year_from_2000 = h.0; year_to_2099 = h.1.0; month_from_1 = h.1.1.0; month_to_12 = h.1.1.1.0; day_from_1 = h.1.1.1.1.0; day_to_last = h.1.1.1.1.1 })
      (λ h. (h.year_from_2000, (h.year_to_2099, (h.month_from_1, (h.month_to_12, (h.day_from_1, h.day_to_last))))))
      (reflects_and (reflects_leb 2000 y)
      (reflects_and (reflects_leb y 2099)
      (reflects_and (reflects_leb 1 m)
      (reflects_and (reflects_leb m 12)
      (reflects_and (reflects_leb 1 d) (reflects_leb d (month_days y m)))))))

  pub real : IsDate y m d → Real (record { year = y; month = m; day = d })
  real h = record { year_from_2000 = h.year_from_2000; month_from_1 = h.month_from_1; month_to_12 = h.month_to_12; day_from_1 = h.day_from_1; day_to_last = h.day_to_last }

  pub day_of_date_lem : IsDate y m d → day_of_date y m d ≡ record { number = 0; day = day_number y m d }
  unfolding day_of_date
  day_of_date_lem h = if_true _ _ _ (reflects_yes reflects_date h)

  pub refused_date : (IsDate y m d → ⊥) → day_outcome None ≡ day_of_date y m d
  unfolding day_outcome day_of_date
  refused_date h = sym (if_false _ _ _ (reflects_no reflects_date h))

-- ---- from a day

module _ (n : ℕ) where
  pub date_of_day_lem : n ≤ 36524 → date_of_day n ≡ record { number = 0; year = (date_of n).year; month = (date_of n).month; day = (date_of n).day }
  unfolding date_of_day
  date_of_day_lem h = if_true _ _ _ (le-leb n 36524 h)

  pub refused_day : 36524 < n → date_outcome None ≡ date_of_day n
  unfolding date_outcome date_of_day
  refused_day h = sym (if_false _ _ _ (lt-leb n 36524 h))

  -- a date is that of its number
  pub date_of_its_number : (y m d : ℕ) → n ≤ 36524 → IsDate y m d → day_number y m d ≡ n → date_of_day n ≡ record { number = 0; year = y; month = m; day = d }
  date_of_its_number y m d h i e =
      date_of_day_lem h
      ∙ ap (λ x. record { number = 0; year = x.year; month = x.month; day = x.day })
      (ap date_of (sym e) ∙ date_of_number (record { year = y; month = m; day = d }) (real y m d i))
