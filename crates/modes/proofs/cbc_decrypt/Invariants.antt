-- The blocks of the fields so far are decrypted, and then j blocks.
use Prim.Native.Nat.{◌*◌}
use mathlib.Core.Path.{◌≡◌}
use lib.ListN.{length}
use Rattle.cipher.specs.Key.{decrypted}
use Rattle.modes.specs.Cbc.{cbc_decrypt}
use Rattle.modes.proofs.Chaining.{ChainedTo}
use Rattle.modes.proofs.cbc_decrypt.Given as goal

abbrev pub invariant-loop-i : goal.invariant-loop-i
invariant-loop-i l = ChainedTo (cbc_decrypt (decrypted l.k)) l.n l.fn.start l.s l.before (24 * l.i) l.out × (length l.out ≡ 8 * l.n) × (length l.before ≡ 8)

abbrev pub invariant-loop-j : goal.invariant-loop-j
invariant-loop-j l = ChainedTo (cbc_decrypt (decrypted l.k)) l.n l.fn.start l.s l.before l.j l.out × (length l.out ≡ 8 * l.n) × (length l.before ≡ 8)
