-- `running_order::order` meets its contract.
use mathlib.Core.Path.{◌∙◌}
use borrow.Author.Rules.{rules}
use Rattle.running_order.proofs.Whole.{order_span, order_put}
use Rattle.running_order.proofs.order.Goals as goal

pub returns-then-out-text : goal.returns-then-out-text
returns-then-out-text c = search (order_span, rules)

pub returns : goal.returns
returns c = order_put _ _ _ _ _ (c.as_slice-text.ensures.value ∙ c.put_order.ensures) (search rules) _ c.copy_part.ensures
