use native.Mathlib.Omega.{arith}
use Rattle.std.proofs.lemmas.Bool.Decides.{nat_tests}
use Rattle.cipher.specs.Key.{mcrypton_class}
use Rattle.cipher.proofs.mcrypton_class.Goals as goal

pub returns-in-4 : goal.returns-in-4
unfolding mcrypton_class
returns-in-4 c = grind (arith, nat_tests)

pub returns-in_default : goal.returns-in_default
unfolding mcrypton_class
returns-in_default c = grind (arith, nat_tests)
