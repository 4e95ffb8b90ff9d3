use mathlib.Core.Path.{◌∙◌}
use Rattle.captions_c.proofs.captions_cmac.Goals as goal

pub returns : goal.returns
returns c = c.from.ensures _ ∙ c.cmac-a.ensures
