use mathlib.Core.Path.{◌∙◌}
use Rattle.captions_c.proofs.captions_panel.Goals as goal

pub returns : goal.returns
returns c = c.from.ensures _ ∙ c.panel-a.ensures
