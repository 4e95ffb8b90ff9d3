use mathlib.Core.Path.{◌∙◌}
use Rattle.present.proofs.EightBytes.{eight_bytes}
use Rattle.present.proofs.block_bytes.Goals as goal

pub returns : goal.returns
returns c = c.to_be_bytes.ensures ∙ eight_bytes c.args.x
