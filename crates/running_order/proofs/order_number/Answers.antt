-- `running_order::order_number` meets its contract.
use borrow.Author.Rules.{rules}
use Rattle.running_order.proofs.Numbers.{number_made}
use Rattle.running_order.proofs.order_number.Goals as goal

pub returns : goal.returns
returns c = search (number_made, rules)
