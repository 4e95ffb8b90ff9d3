use mathlib.Core.Path.{◌∙◌}
use Rattle.captions_c.proofs.captions_decrypt_block.Goals as goal

pub returns : goal.returns
returns c = c.from.ensures _ ∙ c.decrypt_block-a.ensures
