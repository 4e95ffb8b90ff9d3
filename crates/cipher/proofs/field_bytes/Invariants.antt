-- What remains is what there was to do.
use mathlib.Core.Path.{◌≡◌}
use mathlib.Core.List.{[], map}
use lib.ListN.{length}
use Rattle.mcrypton.specs.Bytes.{bytes_of}
use Rattle.octets.proofs.Each.{each}
use Rattle.cipher.proofs.field_bytes.Given as goal

abbrev pub invariant-loop-i : goal.invariant-loop-i
invariant-loop-i l = (each [] bytes_of l.i l.y-items l.a ≡ map bytes_of l.a) × (length l.y-items ≡ 24)
