-- What holds of the calendar and of its two conversions.
use Rattle.std.specs.Prelude.{ℕ, ◌+◌, ◌%◌, ◌≤◌, ◌<◌, ◌≡◌, true, false, List, [], ◌∷◌, map, ◌↔◌, ◌⊎◌, Some, None}
use Rattle.octets.specs.Clauses.{◌when◌, Exactly}
use Rattle.calendar.specs.Calendar.{leap, month_days, Date, DateOutcome, day_of_date, date_of_day}
use Rattle.calendar.specs.Answers.{day_outcome, date_outcome}

-- a leap year: 4 divides it, and 100 does not or 400 does
pub record IsLeap (y : ℕ) : Type 0 where
  pub by_4 : y % 4 ≡ 0
  pub not_by_100_or_by_400 : (y % 100 ≡ 0 → ⊥) ⊎ (y % 400 ≡ 0)

-- a date of the calendar
pub record IsDate (y m d : ℕ) : Type 0 where
  pub year_from_2000 : 2000 ≤ y
  pub year_to_2099 : y ≤ 2099
  pub month_from_1 : 1 ≤ m
  pub month_to_12 : m ≤ 12
  pub day_from_1 : 1 ≤ d
  pub day_to_last : d ≤ month_days y m

-- z is the day after x
pub data Follows (x z : DateOutcome) : Type 0 where
  -- the next day of the same month, while the month has it
  same_month : x.day < month_days x.year x.month → z.year ≡ x.year → z.month ≡ x.month → z.day ≡ x.day + 1 → Follows x z
  -- after the month's last day the first of the next month
  next_month : x.day ≡ month_days x.year x.month → x.month < 12 → z.year ≡ x.year → z.month ≡ x.month + 1 → z.day ≡ 1 → Follows x z
  -- after 31 December the first of January of the next year
  next_year : x.day ≡ 31 → x.month ≡ 12 → z.year ≡ x.year + 1 → z.month ≡ 1 → z.day ≡ 1 → Follows x z

-- x is before z
pub data Earlier (x z : Date) : Type 0 where
  by_year : x.year < z.year → Earlier x z
  by_month : x.year ≡ z.year → x.month < z.month → Earlier x z
  by_day : x.year ≡ z.year → x.month ≡ z.month → x.day < z.day → Earlier x z

-- the number of the first of month m of year y
unfoldable pub first : ℕ → ℕ → ℕ
first y m = (day_of_date y m 1).day

-- those of all twelve months
unfoldable pub firsts : ℕ → List ℕ
firsts y = map (first y) (1 ∷ 2 ∷ 3 ∷ 4 ∷ 5 ∷ 6 ∷ 7 ∷ 8 ∷ 9 ∷ 10 ∷ 11 ∷ 12 ∷ [])

-- the days of all twelve months
unfoldable pub lengths : ℕ → List ℕ
lengths y = map (month_days y) (1 ∷ 2 ∷ 3 ∷ 4 ∷ 5 ∷ 6 ∷ 7 ∷ 8 ∷ 9 ∷ 10 ∷ 11 ∷ 12 ∷ [])

-- what the words of the laws come to: they ask for no more, and say no less
pub record CalendarWords : Type 0 where
  pub is_leap : (y : ℕ) → IsLeap y ↔ ((y % 4 ≡ 0) × ((y % 100 ≡ 0 → ⊥) ⊎ (y % 400 ≡ 0)))
  pub is_date_lem : (y m d : ℕ) → IsDate y m d ↔ ((2000 ≤ y) × (y ≤ 2099) × (1 ≤ m) × (m ≤ 12) × (1 ≤ d) × (d ≤ month_days y m))
  -- the days of the months, of a leap year and of a common one
  pub leap_lengths : (y : ℕ) → IsLeap y → lengths y ≡ 31 ∷ 29 ∷ 31 ∷ 30 ∷ 31 ∷ 30 ∷ 31 ∷ 31 ∷ 30 ∷ 31 ∷ 30 ∷ 31 ∷ []
  pub common_lengths : (y : ℕ) → (IsLeap y → ⊥) → lengths y ≡ 31 ∷ 28 ∷ 31 ∷ 30 ∷ 31 ∷ 30 ∷ 31 ∷ 31 ∷ 30 ∷ 31 ∷ 30 ∷ 31 ∷ []
  -- before: by year, then by month, then by day
  pub is_earlier : (x z : Date) → (x.year < z.year) ⊎ ((x.year ≡ z.year) × ((x.month < z.month) ⊎ ((x.month ≡ z.month) × (x.day < z.day)))) → Earlier x z
  -- the day after: the next day, the first of the next month or the first of the next year
  pub says_follows : (x z : DateOutcome) → Follows x z
      → ((z.year ≡ x.year) × (z.month ≡ x.month) × (z.day ≡ x.day + 1))
      ⊎ (((z.year ≡ x.year) × (z.month ≡ x.month + 1) × (z.day ≡ 1))
      ⊎ ((z.year ≡ x.year + 1) × (z.month ≡ 1) × (z.day ≡ 1)))

pub record CalendarLaws : Type 0 where
  pub words : CalendarWords
  -- what the answers carry: a day, or a date's year, month and day
  pub carries_day : (n : ℕ) → day_outcome (Some n) ≡ record { number = 0; day = n }
  pub carries_no_day : day_outcome None ≡ record { number = 11; day = 0 }
  pub carries_date : (y m d : ℕ) → date_outcome (Some (record { year = y; month = m; day = d })) ≡ record { number = 0; year = y; month = m; day = d }
  pub carries_no_date : date_outcome None ≡ record { number = 11; year = 0; month = 0; day = 0 }
  -- the leap rule whole: the years of the calendar have no century but 2000
  pub leap_rule : (y : ℕ) → (leap y ≡ true) ↔ IsLeap y
  pub leap_1900 : leap 1900 ≡ false
  pub leap_2000 : leap 2000 ≡ true
  pub leap_2001 : leap 2001 ≡ false
  pub leap_2004 : leap 2004 ≡ true
  pub leap_2100 : leap 2100 ≡ false
  pub leap_2400 : leap 2400 ≡ true
  -- a conversion is accepted exactly of a date of the calendar, and else refused by 11, with 0 for the day
  pub date_exactly : (y m d : ℕ) → Exactly (day_of_date y m d).number ((11 when (IsDate y m d → ⊥)) ∷ [])
  pub date_accepted : (y m d : ℕ) → ((day_of_date y m d).number ≡ 0) ↔ IsDate y m d
  pub date_refused : (y m d : ℕ) → (IsDate y m d → ⊥) → day_of_date y m d ≡ record { number = 11; day = 0 }
  -- and back exactly of a day to 36524, and else refused by 11, with zeros for the date
  pub day_exactly : (n : ℕ) → Exactly (date_of_day n).number ((11 when (36524 < n)) ∷ [])
  pub day_accepted : (n : ℕ) → ((date_of_day n).number ≡ 0) ↔ (n ≤ 36524)
  pub day_refused : (n : ℕ) → 36524 < n → date_of_day n ≡ record { number = 11; year = 0; month = 0; day = 0 }
  -- each undoes the other
  pub day_of_its_date : (n : ℕ) → n ≤ 36524 → day_of_date (date_of_day n).year (date_of_day n).month (date_of_day n).day ≡ record { number = 0; day = n }
  pub date_of_its_day : (y m d : ℕ) → IsDate y m d → date_of_day (day_of_date y m d).day ≡ record { number = 0; year = y; month = m; day = d }
  -- both ends
  pub first_day : day_of_date 2000 1 1 ≡ record { number = 0; day = 0 }
  pub first_date_lem : date_of_day 0 ≡ record { number = 0; year = 2000; month = 1; day = 1 }
  pub last_day : day_of_date 2099 12 31 ≡ record { number = 0; day = 36524 }
  pub last_date : date_of_day 36524 ≡ record { number = 0; year = 2099; month = 12; day = 31 }
  -- the date of the next day follows, and an earlier date has the lower number
  pub follows : (n : ℕ) → n < 36524 → Follows (date_of_day n) (date_of_day (n + 1))
  pub earlier : (x z : Date) → IsDate x.year x.month x.day → IsDate z.year z.month z.day → Earlier x z
      → (day_of_date x.year x.month x.day).day < (day_of_date z.year z.month z.day).day
  -- the months of a leap year and of a common one; those of every other year of the calendar are the one or the other, moved by as much as the first of January is
  pub firsts_2000 : firsts 2000 ≡ 0 ∷ 31 ∷ 60 ∷ 91 ∷ 121 ∷ 152 ∷ 182 ∷ 213 ∷ 244 ∷ 274 ∷ 305 ∷ 335 ∷ []
  pub firsts_2001 : firsts 2001 ≡ 366 ∷ 397 ∷ 425 ∷ 456 ∷ 486 ∷ 517 ∷ 547 ∷ 578 ∷ 609 ∷ 639 ∷ 670 ∷ 700 ∷ []
  pub leap_months : (y : ℕ) → 2000 ≤ y → y ≤ 2099 → IsLeap y → (m : ℕ) → 1 ≤ m → m ≤ 12 → first y m + first 2000 1 ≡ first 2000 m + first y 1
  pub common_months : (y : ℕ) → 2000 ≤ y → y ≤ 2099 → (IsLeap y → ⊥) → (m : ℕ) → 1 ≤ m → m ≤ 12 → first y m + first 2001 1 ≡ first 2001 m + first y 1
