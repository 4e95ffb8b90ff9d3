-- `modes::cbc_encrypt` meets its contract. The loop's invariant: j blocks are encrypted.
use Prim.Native.Nat.{◌*◌}
use mathlib.Core.Path.{◌≡◌}
use lib.ListN.{length}
use Rattle.cipher.specs.Key.{encrypted}
use Rattle.modes.specs.Cbc.{cbc_encrypt}
use Rattle.modes.proofs.Chaining.{ChainedTo}
use Rattle.modes.proofs.cbc_encrypt.Given as goal

abbrev pub invariant-loop-j : goal.invariant-loop-j
invariant-loop-j l = ChainedTo (cbc_encrypt (encrypted l.k)) l.n l.initial.c l.p l.c l.j l.out × (length l.out ≡ 8 * l.n)
