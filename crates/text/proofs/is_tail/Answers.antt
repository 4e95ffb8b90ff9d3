-- `text::is_tail` meets its contract.
use Rattle.std.proofs.Common.{arith}
use Rattle.std.proofs.lemmas.Grind.{common_steps}
use Rattle.text.specs.Grammar.{inside}
use Rattle.text.proofs.is_tail.Goals as goal

pub returns : goal.returns
unfolding inside
returns c = grind (arith, common_steps)
