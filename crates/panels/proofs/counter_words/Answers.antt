-- `panels::counter_words` meets its contract.
use Rattle.std.proofs.Common.{ap, ◌∙◌, arith}
use Rattle.mcrypton.specs.Bytes.{words_of}
use Rattle.panels.proofs.Blocks.{counter_bytes}
use Rattle.panels.proofs.counter_words.Goals as goal

pub returns : goal.returns
returns c = c.block_words.ensures ∙ ap words_of (c.to_be_bytes.ensures ∙ counter_bytes c.args.x (omega arith))
