use mathlib.Core.Path.{◌∙◌}
use Rattle.captions_c.proofs.captions_date_of_day.Goals as goal

pub returns : goal.returns
returns c = c.from.ensures ∙ c.date_of_day-a.ensures
