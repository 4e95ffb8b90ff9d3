-- `mcrypton::by_path` meets its contract. The loop's invariant: what remains after r rounds is what remained at its start.
use mathlib.Core.Path.{◌≡◌}
use Prim.Native.Nat.{◌-◌}
use Rattle.mcrypton.specs.Walks.{step, walk_key, Reached}
use Rattle.mcrypton.proofs.Remaining.{remaining}
use Rattle.mcrypton.proofs.by_path.Given as goal

abbrev pub invariant-loop-r : goal.invariant-loop-r
invariant-loop-r l = Reached l.d l.r l.v × (remaining l.d l.p (step l.d) (walk_key l.d) 12 0 l.initial.v l.initial.a ≡ remaining l.d l.p (step l.d) (walk_key l.d) (12 - l.r) l.r l.v l.a)
