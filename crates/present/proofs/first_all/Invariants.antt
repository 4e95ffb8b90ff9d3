-- What remains is what there was to do.
use mathlib.Core.Path.{◌≡◌}
use mathlib.Core.List.{List, [], map}
use Prim.Native.Nat.{ℕ}
use lib.Bits.{bit_xor}
use lib.ListN.{length}
use Rattle.octets.specs.Bytes.{number}
use Rattle.octets.proofs.Each.{each}
use Rattle.present_rounds.specs.Layers.{inverse_pLayer}
use Rattle.present.proofs.first_all.Given as goal

-- what becomes of a block x
abbrev pub begun : ℕ → List ℕ → ℕ
begun k x = bit_xor (inverse_pLayer (number x)) k

abbrev pub invariant-loop-i : goal.invariant-loop-i
invariant-loop-i l = (each [] (begun l.k) l.i l.a l.x-items ≡ map (begun l.k) l.x-items) × (length l.a ≡ 24)
