use native.Mathlib.Omega.{arith}
use Rattle.std.proofs.lemmas.Bool.Decides.{nat_tests}
use Rattle.cipher.specs.Key.{key_bytes}
use Rattle.cipher.proofs.key_bytes.Goals as goal

pub returns-in-21 : goal.returns-in-21
unfolding key_bytes
returns-in-21 c = grind (arith, nat_tests)

pub returns-in-24 : goal.returns-in-24
unfolding key_bytes
returns-in-24 c = grind (arith, nat_tests)

pub returns-in_default : goal.returns-in_default
unfolding key_bytes
returns-in_default c = grind (arith, nat_tests)
