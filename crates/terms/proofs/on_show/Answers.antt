-- `terms::on_show` meets its contract.
use borrow.Author.Rules.{rules}
use Rattle.terms.proofs.Terms.{show_early, show_closing}
use Rattle.terms.proofs.on_show.Goals as goal

pub returns-then-opening_day-day : goal.returns-then-opening_day-day
returns-then-opening_day-day c = search (show_closing, rules)

pub returns-else-opening_day-day : goal.returns-else-opening_day-day
returns-else-opening_day-day c = search (show_early, rules)
