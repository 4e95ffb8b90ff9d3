-- `calendar::years_before` meets its contract.
use borrow.Author.Rules.{rules}
use Rattle.calendar.proofs.Ways.{early_years, late_years}
use Rattle.calendar.proofs.years_before.Goals as goal

pub returns-then-month-le2 : goal.returns-then-month-le2
returns-then-month-le2 c = search (early_years, rules)

pub returns-else-month-le2 : goal.returns-else-month-le2
returns-else-month-le2 c = search (late_years, rules)
