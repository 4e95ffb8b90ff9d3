-- `slots::unseal::first_left` meets its contract.
use borrow.Author.Rules.{rules}
use Rattle.slots.proofs.Opening.{left_small}
use Rattle.slots.proofs.unseal.first_left.Goals as goal

pub overflow_cast-result : goal.overflow_cast-result
overflow_cast-result c = search (left_small, rules)
