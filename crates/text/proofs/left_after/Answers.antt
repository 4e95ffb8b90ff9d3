-- `text::left_after` meets its contract.
use borrow.Author.Rules.{rules}
use Rattle.text.proofs.Breaks.{left_first, left_inside, left_outside}
use Rattle.text.proofs.left_after.Goals as goal

pub returns-in-0 : goal.returns-in-0
returns-in-0 c = search (left_first, rules)

pub returns-in_default : goal.returns-in_default
returns-in_default c = search (left_inside, rules)

pub returns-in_default-2 : goal.returns-in_default-2
returns-in_default-2 c = search (left_outside, rules)
