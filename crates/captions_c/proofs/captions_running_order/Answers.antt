use mathlib.Core.Path.{◌∙◌}
use Rattle.captions_c.proofs.captions_running_order.Goals as goal

pub returns : goal.returns
returns c = c.order_answer.ensures _ ∙ c.order-a.ensures
