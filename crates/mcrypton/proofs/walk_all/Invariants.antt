-- `mcrypton::walk_all` meets its contract. The loop's invariant: what remains of the arrays after r rounds is what remained at its start.
use mathlib.Core.Path.{◌≡◌}
use mathlib.Core.List.{map}
use Prim.Native.Nat.{◌-◌}
use Rattle.mcrypton.specs.Walks.{step, walk_key, Reached}
use Rattle.mcrypton.proofs.Remaining.{remaining}
use Rattle.mcrypton.proofs.walk_all.Given as goal

abbrev pub invariant-loop-r : goal.invariant-loop-r
invariant-loop-r l = Reached l.d l.r l.v × (map (remaining l.d 0 (step l.d) (walk_key l.d) 12 0 l.initial.v) l.initial.a ≡ map (remaining l.d 0 (step l.d) (walk_key l.d) (12 - l.r) l.r l.v) l.a)
