-- `calendar::month_has` meets its contract.
use borrow.Author.Rules.{rules}
use Rattle.calendar.proofs.Ways.{in_every, in_other, in_leap, in_common}
use Rattle.calendar.proofs.month_has.Goals as goal

pub returns-then-day-le28 : goal.returns-then-day-le28
returns-then-day-le28 c = search (in_every, rules)

pub returns-then-month-ne2 : goal.returns-then-month-ne2
returns-then-month-ne2 c = search (in_other, rules)

pub returns-then-is_leap : goal.returns-then-is_leap
returns-then-is_leap c = search (in_leap, rules)

pub returns-else-is_leap : goal.returns-else-is_leap
returns-else-is_leap c = search (in_common, rules)
