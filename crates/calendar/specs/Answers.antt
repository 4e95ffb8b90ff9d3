-- The paper's number of an answer, and the values that it carries: zeros where there is none.
use Rattle.std.specs.Prelude.{ℕ, Option, Some, None}
use Rattle.calendar.specs.Calendar.{DayOutcome, DateOutcome}
use Rattle.calendar.specs.declared.Date.{Date}

unfoldable pub day_outcome : Option ℕ → DayOutcome
day_outcome (Some n) = record { number = 0; day = n }
day_outcome None = record { number = 11; day = 0 }

unfoldable pub date_outcome : Option Date → DateOutcome
date_outcome (Some x) = record { number = 0; year = x.year; month = x.month; day = x.day }
date_outcome None = record { number = 11; year = 0; month = 0; day = 0 }
