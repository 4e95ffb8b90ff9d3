-- `calendar::is_leap` meets its contract.
use borrow.Author.Rules.{rules}
use Rattle.calendar.proofs.Years.{leap_four}
use Rattle.calendar.proofs.is_leap.Goals as goal

pub returns : goal.returns
returns c = search (leap_four, rules)
