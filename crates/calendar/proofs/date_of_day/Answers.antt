-- `calendar::date_of_day` meets its contract.
use native.Mathlib.Omega.{arith}
use borrow.Author.Rules.{rules}
use Rattle.calendar.proofs.Years.{year_of}
use Rattle.calendar.proofs.Conversions.{refused_day}
use Rattle.calendar.proofs.Ways.{day_in_long_year, next_fits, month_day_fits, accepted_day}
use Rattle.calendar.proofs.date_of_day.Goals as goal

pub returns-then-day-gt-LAST : goal.returns-then-day-gt-LAST
returns-then-day-gt-LAST c = refused_day _ (omega arith)

pub long_day-u-requires : goal.long_day-u-requires
long_day-u-requires c = search (year_of, rules)

pub long_month-month-requires : goal.long_month-month-requires
long_month-month-requires c = search (day_in_long_year, rules)

pub overflow_add-result : goal.overflow_add-result
overflow_add-result c = search (next_fits, rules)

pub overflow_cast-result-3 : goal.overflow_cast-result-3
overflow_cast-result-3 c = search (month_day_fits, rules)

pub returns : goal.returns
returns c = search (accepted_day, rules)
