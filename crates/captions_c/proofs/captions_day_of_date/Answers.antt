use mathlib.Core.Path.{◌∙◌}
use Rattle.captions_c.proofs.captions_day_of_date.Goals as goal

pub returns : goal.returns
returns c = c.from.ensures ∙ c.day_of_date-a.ensures
