-- `modes::last_block` meets its contract.
use borrow.Author.Rules.{rules}
use Rattle.modes.proofs.Subkeys.{complete_inside, short_inside, last_complete, last_padded}
use Rattle.modes.proofs.last_block.Goals as goal

pub block_at-requires : goal.block_at-requires
block_at-requires c = search (complete_inside, rules)

pub returns-then-is_complete : goal.returns-then-is_complete
returns-then-is_complete c = search (last_complete, rules)

pub bounds-b-s : goal.bounds-b-s
bounds-b-s c = search (short_inside, rules)

pub returns : goal.returns
returns c = search (last_padded, rules)
