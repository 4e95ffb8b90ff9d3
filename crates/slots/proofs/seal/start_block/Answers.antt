-- `slots::seal::start_block` meets its contract.
use Rattle.captions.specs.Captions.{start_block}
use Rattle.slots.proofs.seal.start_block.Goals as goal

pub returns : goal.returns
returns c = unfold start_block in cc
