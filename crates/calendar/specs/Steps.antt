-- What the inner functions require and ensure.
use Rattle.std.specs.Prelude.{ℕ, ◌+◌, ◌≤◌, ◌<◌, leb, ltb}
use Rattle.octets.specs.Bytes.{if◌then◌otherwise◌}
use Rattle.calendar.specs.Calendar.{leap, days_before_month}

-- a year of the calendar
pub record InRange (y : ℕ) : Type 0 where
  pub from : 2000 ≤ y
  pub to : y ≤ 2099

-- ---- a long year is one whose February has 30 days

-- what February of year y lacks of that
unfoldable pub lacks : ℕ → ℕ
lacks y = if leap y then 1 otherwise 2

-- what the months of year y before month m lack of it
unfoldable pub lacking : ℕ → ℕ → ℕ
lacking y m = if leb m 2 then 0 otherwise lacks y

-- the days of a long year before month m
unfoldable pub long_start : ℕ → ℕ
long_start m = days_before_month 2000 m + lacking 2000 m

-- where a long year has day t of year y, both counted from 0
unfoldable pub long_day : ℕ → ℕ → ℕ
long_day y t = if ltb t (days_before_month y 3) then t otherwise t + lacks y

-- month m of a long year holds its day u
pub record Holds (u m : ℕ) : Type 0 where
  pub month_from_1 : 1 ≤ m
  pub month_to_12 : m ≤ 12
  pub begun : long_start m ≤ u
  pub lasts : u < long_start (m + 1)
