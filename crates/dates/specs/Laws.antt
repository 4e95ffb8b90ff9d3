-- What is proved of dates as text: each date of the calendar has its own text of ten characters, and no other text is taken.
use Rattle.std.specs.Prelude.{ℕ, ◌+◌, ◌/◌, ◌%◌, ◌≤◌, ◌<◌, ◌≡◌, List, [], ◌∷◌}
use Rattle.calendar.specs.Calendar.{day_of_date, date_of_day}
use Rattle.calendar.specs.Laws.{IsDate}
use Rattle.dates.specs.DateText.{day_text, day_of_text}

-- YYYY-MM-DD, as bytes of ASCII
abbrev pub spelled : ℕ → ℕ → ℕ → List ℕ
spelled y m d =
    (48 + y / 1000) ∷ (48 + y / 100 % 10) ∷ (48 + y / 10 % 10) ∷ (48 + y % 10)
    ∷ 0x2d ∷ (48 + m / 10) ∷ (48 + m % 10)
    ∷ 0x2d ∷ (48 + d / 10) ∷ (48 + d % 10) ∷ []

-- x is the text of no date of the calendar
abbrev pub NoDateText : List ℕ → Type 0
NoDateText x = (y m d : ℕ) → IsDate y m d → x ≡ spelled y m d → ⊥

pub record DateTexts : Type 0 where
  -- the text of a date gives its day, and every other text is refused by 11, with 0 for the day
  pub taken : (y m d : ℕ) → IsDate y m d → day_of_text (spelled y m d) ≡ day_of_date y m d
  pub refused : (x : List ℕ) → NoDateText x → day_of_text x ≡ record { number = 11; day = 0 }
  -- the text of a day is that of its date, and above the last day it is 0000-00-00
  pub its_text : (n : ℕ) → n ≤ 36524 → day_text n ≡ spelled (date_of_day n).year (date_of_day n).month (date_of_day n).day
  pub no_text : (n : ℕ) → 36524 < n → day_text n ≡ 0x30 ∷ 0x30 ∷ 0x30 ∷ 0x30 ∷ 0x2d ∷ 0x30 ∷ 0x30 ∷ 0x2d ∷ 0x30 ∷ 0x30 ∷ []
  -- each undoes the other
  pub day_back : (n : ℕ) → n ≤ 36524 → day_of_text (day_text n) ≡ record { number = 0; day = n }
  pub text_back : (y m d : ℕ) → IsDate y m d → day_text (day_of_text (spelled y m d)).day ≡ spelled y m d
  -- both ends: 2000-01-01 and 2099-12-31
  pub first_text : day_text 0 ≡ 0x32 ∷ 0x30 ∷ 0x30 ∷ 0x30 ∷ 0x2d ∷ 0x30 ∷ 0x31 ∷ 0x2d ∷ 0x30 ∷ 0x31 ∷ []
  pub last_text : day_text 36524 ≡ 0x32 ∷ 0x30 ∷ 0x39 ∷ 0x39 ∷ 0x2d ∷ 0x31 ∷ 0x32 ∷ 0x2d ∷ 0x33 ∷ 0x31 ∷ []
  -- 2000-02-29 is day 59; 2000-02-30 and 2000-2-29 are no dates, nor is 2000-02-29 with a line feed after it
  pub leap_day : day_of_text (0x32 ∷ 0x30 ∷ 0x30 ∷ 0x30 ∷ 0x2d ∷ 0x30 ∷ 0x32 ∷ 0x2d ∷ 0x32 ∷ 0x39 ∷ []) ≡ record { number = 0; day = 59 }
  pub no_day : day_of_text (0x32 ∷ 0x30 ∷ 0x30 ∷ 0x30 ∷ 0x2d ∷ 0x30 ∷ 0x32 ∷ 0x2d ∷ 0x33 ∷ 0x30 ∷ []) ≡ record { number = 11; day = 0 }
  pub short_month : day_of_text (0x32 ∷ 0x30 ∷ 0x30 ∷ 0x30 ∷ 0x2d ∷ 0x32 ∷ 0x2d ∷ 0x32 ∷ 0x39 ∷ []) ≡ record { number = 11; day = 0 }
  pub line_feed_after : day_of_text (0x32 ∷ 0x30 ∷ 0x30 ∷ 0x30 ∷ 0x2d ∷ 0x30 ∷ 0x32 ∷ 0x2d ∷ 0x32 ∷ 0x39 ∷ 0x0a ∷ []) ≡ record { number = 11; day = 0 }
