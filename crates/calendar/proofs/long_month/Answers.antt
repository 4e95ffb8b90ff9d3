-- `calendar::long_month` meets its contract.
use borrow.Author.Rules.{rules}
use Rattle.calendar.proofs.LongYear.{month_line}
use Rattle.calendar.proofs.long_month.Goals as goal

pub returns : goal.returns
returns c = search (month_line, rules)
