-- `modes::mac_one` meets its contract.
use borrow.Author.Rules.{rules}
use Rattle.modes.proofs.Authentication.{no_block_first}
use Rattle.modes.proofs.mac_one.Goals as goal

pub mac-requires : goal.mac-requires
mac-requires c = search (no_block_first, rules)
