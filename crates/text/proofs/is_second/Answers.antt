-- `text::is_second` meets its contract.
use Rattle.std.proofs.Common.{arith}
use Rattle.std.proofs.lemmas.Grind.{common_steps}
use Rattle.text.specs.Grammar.{inside}
use Rattle.text.specs.Steps.{second_low, second_high, second}
use Rattle.text.proofs.Leads.{second_tail}
use Rattle.text.proofs.is_second.Goals as goal

pub returns-in-224 : goal.returns-in-224
unfolding inside second second_low second_high
returns-in-224 c = rw c.in-224.is (grind (arith, common_steps))

pub returns-in-237 : goal.returns-in-237
unfolding inside second second_low second_high
returns-in-237 c = rw c.in-237.is (grind (arith, common_steps))

pub returns-in-240 : goal.returns-in-240
unfolding inside second second_low second_high
returns-in-240 c = rw c.in-240.is (grind (arith, common_steps))

pub returns-in-244 : goal.returns-in-244
unfolding inside second second_low second_high
returns-in-244 c = rw c.in-244.is (grind (arith, common_steps))

pub returns-in_default : goal.returns-in_default
returns-in_default c =
    rw (second_tail c.args.x (λ q. omega arith) (λ q. omega arith) (λ q. omega arith) (λ q. omega arith)) c.is_tail.ensures
