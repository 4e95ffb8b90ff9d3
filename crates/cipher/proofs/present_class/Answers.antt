use native.Mathlib.Omega.{arith}
use Rattle.std.proofs.lemmas.Bool.Decides.{nat_tests}
use Rattle.cipher.specs.Key.{present_class}
use Rattle.cipher.proofs.present_class.Goals as goal

pub returns-in-21 : goal.returns-in-21
unfolding present_class
returns-in-21 c = grind (arith, nat_tests)

pub returns-in_default : goal.returns-in_default
unfolding present_class
returns-in_default c = grind (arith, nat_tests)
