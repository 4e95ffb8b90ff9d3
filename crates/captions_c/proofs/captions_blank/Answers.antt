use mathlib.Core.Path.{◌∙◌, ap}
use Rattle.captions_c.specs.Answer.{plain}
use Rattle.captions_c.proofs.captions_blank.Goals as goal

pub returns : goal.returns
returns c = c.from.ensures _ ∙ ap plain c.blank-a.ensures
