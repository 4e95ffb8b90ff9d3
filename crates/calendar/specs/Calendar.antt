-- The calendar: day 0 is 2000-01-01 of the Gregorian calendar, and the last day is 36524, 2099-12-31.
use Rattle.std.specs.Prelude.{ℕ, zero, suc, ◌+◌, ◌-◌, ◌%◌, Bool, not, ◌&&◌, ◌||◌, eqb, leb, ltb}
use Rattle.octets.specs.Bytes.{if◌then◌otherwise◌}
pub use Rattle.calendar.specs.declared.Date.{Date}

-- ---- years and months

-- a leap year: 4 divides it, and 100 does not or 400 does
unfoldable pub leap : ℕ → Bool
leap y = eqb (y % 4) 0 && (not (eqb (y % 100) 0) || eqb (y % 400) 0)

-- the days of year y
unfoldable pub year_days : ℕ → ℕ
year_days y = if leap y then 366 otherwise 365

-- the days of month m of year y, and 0 where there is no such month
unfoldable pub month_days : ℕ → ℕ → ℕ
month_days y m =
    if eqb m 1 then 31 otherwise
    if eqb m 2 then (if leap y then 29 otherwise 28) otherwise
    if eqb m 3 then 31 otherwise
    if eqb m 4 then 30 otherwise
    if eqb m 5 then 31 otherwise
    if eqb m 6 then 30 otherwise
    if eqb m 7 then 31 otherwise
    if eqb m 8 then 31 otherwise
    if eqb m 9 then 30 otherwise
    if eqb m 10 then 31 otherwise
    if eqb m 11 then 30 otherwise
    if eqb m 12 then 31 otherwise
    0

-- ---- the number of a date, by sums

-- the days of the first k years from 2000
unfoldable pub years_sum : ℕ → ℕ
years_sum zero = 0
years_sum (suc k) = years_sum k + year_days (2000 + k)

-- the days of the first k months of year y
unfoldable pub months_sum : ℕ → ℕ → ℕ
months_sum y zero = 0
months_sum y (suc k) = months_sum y k + month_days y (suc k)

-- the days of the years from 2000 before year y, and of the months of year y before month m
unfoldable pub days_before_year : ℕ → ℕ
days_before_year y = years_sum (y - 2000)

unfoldable pub days_before_month : ℕ → ℕ → ℕ
days_before_month y m = months_sum y (m - 1)

-- the number of day d of month m of year y
unfoldable pub day_number : ℕ → ℕ → ℕ → ℕ
day_number y m d = days_before_year y + days_before_month y m + (d - 1)

-- ---- the date of a number, by counting up

unfoldable pub first_date : Date
first_date = record { year = 2000; month = 1; day = 1 }

-- the next day of its month, the first of the next month, and the first of the next year
abbrev pub day_after : Date → Date
day_after x = record { year = x.year; month = x.month; day = x.day + 1 }

abbrev pub month_after : Date → Date
month_after x = record { year = x.year; month = x.month + 1; day = 1 }

abbrev pub year_after : Date → Date
year_after x = record { year = x.year + 1; month = 1; day = 1 }

-- the first of the three that there is
unfoldable pub next_date : Date → Date
next_date x =
    if ltb x.day (month_days x.year x.month) then day_after x
    otherwise if ltb x.month 12 then month_after x
    otherwise year_after x

-- the date n days after the first
unfoldable pub date_of : ℕ → Date
date_of zero = first_date
date_of (suc n) = next_date (date_of n)

-- ---- the conversions: 0 is accepted, 11 no such date

pub record DayOutcome : Type 0 where
  pub number : ℕ
  pub day : ℕ

pub record DateOutcome : Type 0 where
  pub number : ℕ
  pub year : ℕ
  pub month : ℕ
  pub day : ℕ

-- the years 2000 to 2099, the months 1 to 12, and the days that the month has
unfoldable pub is_date : ℕ → ℕ → ℕ → Bool
is_date y m d = leb 2000 y && (leb y 2099 && (leb 1 m && (leb m 12 && (leb 1 d && leb d (month_days y m)))))

-- from year, month and day
unfoldable pub day_of_date : ℕ → ℕ → ℕ → DayOutcome
day_of_date y m d = if is_date y m d then record { number = 0; day = day_number y m d } otherwise record { number = 11; day = 0 }

-- and back
unfoldable pub date_of_day : ℕ → DateOutcome
date_of_day n =
    if leb n 36524 then record { number = 0; year = (date_of n).year; month = (date_of n).month; day = (date_of n).day }
    otherwise record { number = 11; year = 0; month = 0; day = 0 }
