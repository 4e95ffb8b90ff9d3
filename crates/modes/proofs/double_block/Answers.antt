-- `modes::double_block` meets its contract.
use borrow.Author.Rules.{rules}
use Rattle.modes.proofs.Subkeys.{double_low, double_high}
use Rattle.modes.proofs.double_block.Goals as goal

pub returns-then-b-lt128 : goal.returns-then-b-lt128
returns-then-b-lt128 c = search (double_low, rules)

pub returns-else-b-lt128 : goal.returns-else-b-lt128
returns-else-b-lt128 c = search (double_high, rules)
