-- `slots::unseal::tail_zero` meets its contract.
use Rattle.slots.proofs.Opening.{tail_part}
use Rattle.slots.proofs.unseal.tail_zero.Goals as goal

pub returns : goal.returns
returns c = search tail_part
