-- What remains is what there was to do.
use mathlib.Core.Path.{◌≡◌}
use mathlib.Core.List.{List, map}
use Prim.Native.Nat.{ℕ}
use lib.ListN.{length}
use Rattle.octets.specs.Bytes.{be}
use Rattle.octets.proofs.Each.{each}
use Rattle.present_rounds.specs.Layers.{p_layer}
use Rattle.present.proofs.last_all.Given as goal

-- what becomes of a state s
abbrev pub ended : ℕ → List ℕ
ended s = be 8 (p_layer s)

abbrev pub invariant-loop-i : goal.invariant-loop-i
invariant-loop-i l = (each 0 ended l.i l.b l.s-items ≡ map ended l.s-items) × (length l.b ≡ 24)
