-- What remains is what there was to do.
use mathlib.Core.Path.{◌≡◌}
use mathlib.Core.List.{[], map}
use Prim.Native.Nat.{◌≤◌}
use lib.ListN.{length}
use Rattle.mcrypton.specs.Bytes.{words_of}
use Rattle.octets.proofs.Each.{each}
use Rattle.cipher.specs.Field.{blocks}
use Rattle.cipher.proofs.field_words.Given as goal

abbrev pub invariant-loop-i : goal.invariant-loop-i
invariant-loop-i l = (each [] words_of l.i l.x-items (blocks 24 l.s) ≡ map words_of (blocks 24 l.s)) × (length l.x-items ≡ 24) × (192 ≤ length l.s)
