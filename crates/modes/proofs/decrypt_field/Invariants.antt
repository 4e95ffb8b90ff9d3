-- `modes::decrypt_field` meets its contract. The loop's invariant: i blocks are decrypted, whatever cipher made d.
use mathlib.Core.Path.{◌≡◌}
use mathlib.Core.List.{List, map}
use Prim.Native.Nat.{ℕ, ◌≤◌}
use lib.ListN.{length}
use Rattle.cipher.specs.Field.{blocks}
use Rattle.modes.specs.Cbc.{cbc_decrypt}
use Rattle.modes.proofs.Chaining.{ChainedTo}
use Rattle.modes.proofs.decrypt_field.Given as goal

abbrev pub invariant-loop-i : goal.invariant-loop-i
invariant-loop-i l =
    ((D : List ℕ → List ℕ) → l.x-items ≡ map D (blocks 24 l.s) → ChainedTo (cbc_decrypt D) 24 l.initial.before l.s l.before l.i l.out) × (192 ≤ length l.s) × (length l.out ≡ 192)
