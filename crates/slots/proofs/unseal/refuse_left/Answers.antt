-- `slots::unseal::refuse_left` meets its contract.
use borrow.Author.Rules.{rules}
use Rattle.slots.proofs.Opening.{left_refused}
use Rattle.slots.proofs.unseal.refuse_left.Goals as goal

pub returns : goal.returns
returns c = search (left_refused, rules)
