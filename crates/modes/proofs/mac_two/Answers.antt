-- `modes::mac_two` meets its contract.
use borrow.Author.Rules.{rules}
use Rattle.modes.proofs.Authentication.{block_first}
use Rattle.modes.proofs.mac_two.Goals as goal

pub mac-requires : goal.mac-requires
mac-requires c = search (block_first, rules)
