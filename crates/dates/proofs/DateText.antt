-- Laws of dates as text, one for each way out of a function that makes or reads one.
use Rattle.std.specs.Prelude.{Option, Some, None}
use Prim.Native.Nat.{ℕ, ◌+◌, ◌*◌, ◌%◌}
use mathlib.Core.Path.{◌≡◌, refl, sym, ap, ◌∙◌}
use mathlib.Core.Bool.{Bool, true, false}
use mathlib.Core.List.{List}
use lib.ListN.{length, get_or}
use Rattle.octets.specs.Bytes.{same}
use Rattle.octets.proofs.Compare.{same_length}
use Rattle.calendar.specs.Calendar.{day_of_date, date_of_day}
use Rattle.calendar.specs.Answers.{day_outcome, date_outcome}
use Rattle.calendar.specs.declared.Date.{Date}
use Rattle.dates.specs.DateText.{date_text, day_text, digit_at, two_at, year_in, day_of_text}

-- ---- the text of a day

module _ (n : ℕ) (a : Option Date) (e : date_outcome a ≡ date_of_day n) (x : List ℕ) where
  pub text_date : (y m d : ℕ) → a ≡ Some (record { year = y; month = m; day = d }) → x ≡ date_text y m d → x ≡ day_text n
  unfolding date_outcome day_text
  text_date y m d f g = g ∙ rw (← e, f)

  pub text_none : a ≡ None → x ≡ date_text 0 0 0 → x ≡ day_text n
  unfolding date_outcome day_text
  text_none f g = g ∙ rw (← e, f)

pub length_date : (y m d : ℕ) → length (date_text y m d) ≡ 10
unfolding date_text
length_date y m d = refl

pub length_day : (n : ℕ) → length (day_text n) ≡ 10
unfolding day_text
length_day n = length_date (date_of_day n).year (date_of_day n).month (date_of_day n).day

-- ---- the day of a text

pub digit_read : (x : List ℕ) (i b : ℕ) → b ≡ get_or x i 0 → b % 16 ≡ digit_at x i
unfolding digit_at
digit_read x i b e = rw e

pub two_read : (x : List ℕ) (i a b : ℕ) → a ≡ digit_at x i → b ≡ digit_at x (i + 1) → 10 * a + b ≡ two_at x i
unfolding two_at
two_read x i a b e f = rw (e, f)

pub text_size : (x : List ℕ) → (length x ≡ 10 → ⊥) → day_outcome None ≡ day_of_text x
unfolding day_outcome day_of_text
text_size x h = rw (← same_length x (date_text (year_in x) (two_at x 5) (two_at x 8)) (λ e. h (e ∙ length_date (year_in x) (two_at x 5) (two_at x 8))))

-- w is the text of the date that the digits spell, and r whether x is that
module _ (x : List ℕ) (a b m d : ℕ) (e₀ : a ≡ two_at x 0) (e₂ : b ≡ two_at x 2) (e₅ : m ≡ two_at x 5) (e₈ : d ≡ two_at x 8)
    (w : List ℕ) (f : w ≡ date_text (100 * a + b) m d) (r : Bool) (g : r ≡ same x w) where
  year_is : 100 * a + b ≡ year_in x
  unfolding year_in
  year_is = rw (e₀, e₂)

  same_is_r : same x (date_text (year_in x) (two_at x 5) (two_at x 8)) ≡ r
  same_is_r = sym (g ∙ ap (same x) (f ∙ rw (year_is, e₅, e₈)))

  pub text_other : r ≡ false → day_outcome None ≡ day_of_text x
  unfolding day_outcome day_of_text
  text_other t = rw (same_is_r, t)

  pub text_spelled : r ≡ true → (o : Option ℕ) → day_outcome o ≡ day_of_date (100 * a + b) m d → day_outcome o ≡ day_of_text x
  unfolding day_of_text
  text_spelled t o q = q ∙ rw (same_is_r, t, year_is, e₅, e₈)
