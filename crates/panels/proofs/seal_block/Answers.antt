-- `panels::seal_block` meets its contract.
use Rattle.std.proofs.Common.{rules}
use Rattle.panels.proofs.Blocks.{block_sealed}
use Rattle.panels.proofs.seal_block.Goals as goal

pub returns : goal.returns
returns c = search (block_sealed, rules)
