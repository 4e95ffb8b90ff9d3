-- What remains is what there was to do.
use mathlib.Core.Path.{◌≡◌}
use mathlib.Core.List.{map}
use Prim.Native.Nat.{ℕ}
use lib.Bits.{bit_xor}
use Rattle.octets.proofs.Each.{each}
use Rattle.present_rounds.specs.Layers.{inverse_sBox_layer, inverse_pLayer}
use Rattle.present.proofs.round_all.Given as goal

-- what becomes of a state s
abbrev pub turn : ℕ → ℕ → ℕ
turn k s = bit_xor (inverse_pLayer (inverse_sBox_layer s)) k

abbrev pub invariant-loop-s : goal.invariant-loop-s
invariant-loop-s l = each 0 (turn l.k) l.s-index l.a l.a ≡ map (turn l.k) l.initial.a
