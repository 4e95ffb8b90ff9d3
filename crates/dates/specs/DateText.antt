-- A date as text, YYYY-MM-DD, and a day from such a text: the calendar's dates and no others (document 02, request 11).
use Rattle.std.specs.Prelude.{ℕ, ◌+◌, ◌*◌, ◌/◌, ◌%◌, List, [], ◌∷◌, get_or}
use Rattle.octets.specs.Bytes.{if◌then◌otherwise◌, same}
use Rattle.calendar.specs.Calendar.{DayOutcome, day_of_date, date_of_day}

-- ---- the text of a date, in ASCII: 48 is the digit 0, and 45 the hyphen

unfoldable pub date_text : ℕ → ℕ → ℕ → List ℕ
date_text y m d =
    (48 + y / 1000 % 10) ∷ (48 + y / 100 % 10) ∷ (48 + y / 10 % 10) ∷ (48 + y % 10)
    ∷ 45 ∷ (48 + m / 10 % 10) ∷ (48 + m % 10)
    ∷ 45 ∷ (48 + d / 10 % 10) ∷ (48 + d % 10) ∷ []

unfoldable pub day_text : ℕ → List ℕ
day_text n = date_text (date_of_day n).year (date_of_day n).month (date_of_day n).day

-- ---- the day of a text

-- the value of a digit, which is in its low four bits, and of two
unfoldable pub digit_at : List ℕ → ℕ → ℕ
digit_at x i = get_or x i 0 % 16

unfoldable pub two_at : List ℕ → ℕ → ℕ
two_at x i = 10 * digit_at x i + digit_at x (i + 1)

unfoldable pub year_in : List ℕ → ℕ
year_in x = 100 * two_at x 0 + two_at x 2

-- a text is a date's if it is the text of the date that its digits spell: 11, no such date, where it is not or where the calendar has no such date
unfoldable pub day_of_text : List ℕ → DayOutcome
day_of_text x =
    if same x (date_text (year_in x) (two_at x 5) (two_at x 8)) then day_of_date (year_in x) (two_at x 5) (two_at x 8)
    otherwise record { number = 11; day = 0 }
