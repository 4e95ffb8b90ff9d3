-- What remains is what there was to do.
use mathlib.Core.List.{[]}
use mathlib.Core.Path.{◌≡◌}
use Prim.Native.Nat.{◌≤◌}
use lib.ListN.{length}
use Rattle.octets.proofs.Each.{each}
use Rattle.cipher.specs.Field.{blocks}
use Rattle.cipher.proofs.field_blocks.Given as goal

abbrev pub invariant-loop-i : goal.invariant-loop-i
invariant-loop-i l = (each [] (λ x. x) l.i l.x-items (blocks 24 l.s) ≡ blocks 24 l.s) × (length l.x-items ≡ 24) × (192 ≤ length l.s)
