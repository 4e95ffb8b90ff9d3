use native.Mathlib.Omega.{arith}
use Rattle.std.proofs.lemmas.Bool.Decides.{nat_tests}
use Rattle.present.specs.Bytes.{key_length}
use Rattle.present.proofs.key_length.Goals as goal

pub returns-in-10 : goal.returns-in-10
unfolding key_length
returns-in-10 c = grind (arith, nat_tests)

pub returns-in_default : goal.returns-in_default
unfolding key_length
returns-in_default c = grind (arith, nat_tests)
