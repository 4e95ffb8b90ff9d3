-- At the loop's head 31 - r rounds are taken back on each state.
use mathlib.Core.Path.{◌≡◌}
use mathlib.Core.List.{map}
use Prim.Native.Nat.{◌-◌}
use lib.ListN.{length}
use Rattle.present.proofs.Loop.{turned}
use Rattle.present.proofs.decrypt_all.Given as goal

abbrev pub invariant-loop-r : goal.invariant-loop-r
invariant-loop-r l = (length l.a ≡ 24) × (l.a ≡ map (λ s. turned l.k s (31 - l.r)) l.initial.a)
