-- `key_mark::mark_block` meets its contract.
use Rattle.key_mark.proofs.Mark.{mark_block_lem}
use Rattle.key_mark.proofs.mark_block.Goals as goal

pub returns : goal.returns
returns c = search mark_block_lem
