-- `calendar::long_day` meets its contract.
use borrow.Author.Rules.{rules}
use Rattle.calendar.proofs.LongYear.{leap_early, leap_late, common_early, common_late}
use Rattle.calendar.proofs.long_day.Goals as goal

pub returns-then-t-lt60 : goal.returns-then-t-lt60
returns-then-t-lt60 c = search (leap_early, rules)

pub returns-else-t-lt60 : goal.returns-else-t-lt60
returns-else-t-lt60 c = search (leap_late, rules)

pub returns-then-t-lt59 : goal.returns-then-t-lt59
returns-then-t-lt59 c = search (common_early, rules)

pub returns-else-t-lt59 : goal.returns-else-t-lt59
returns-else-t-lt59 c = search (common_late, rules)
