-- `slots::seal::seal_caption` meets its contract.
use borrow.Author.Rules.{rules}
use Rattle.slots.proofs.Sealing.{caption_sealed}
use Rattle.slots.proofs.seal.seal_caption.Goals as goal

pub returns : goal.returns
returns c = search (caption_sealed, rules)
