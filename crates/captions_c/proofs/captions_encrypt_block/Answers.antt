use mathlib.Core.Path.{◌∙◌}
use Rattle.captions_c.proofs.captions_encrypt_block.Goals as goal

pub returns : goal.returns
returns c = c.from.ensures _ ∙ c.encrypt_block-a.ensures
