-- `running_order::gather_slot` meets its contract.
use borrow.Author.Rules.{rules}
use borrow.Author.Tests.{not-true}
use Rattle.running_order.proofs.Numbers.{gather_none, gather_one}
use Rattle.running_order.proofs.gather_slot.Goals as goal

pub returns-then-not-is_shown : goal.returns-then-not-is_shown
returns-then-not-is_shown c = search (gather_none, not-true, rules)

pub returns : goal.returns
returns c = search (gather_one, rules)
