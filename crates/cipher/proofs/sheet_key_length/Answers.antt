use native.Mathlib.Omega.{arith}
use Rattle.std.proofs.lemmas.Bool.Decides.{nat_tests}
use Rattle.cipher.specs.Key.{sheet_key_length}
use Rattle.cipher.proofs.sheet_key_length.Goals as goal

pub returns-in-8 : goal.returns-in-8
unfolding sheet_key_length
returns-in-8 c = grind (arith, nat_tests)

pub returns-in_default : goal.returns-in_default
unfolding sheet_key_length
returns-in_default c = grind (arith, nat_tests)
