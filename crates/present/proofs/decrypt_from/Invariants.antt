-- At the loop's head 31 - r rounds are taken back, in the form in which the code keeps the state.
use mathlib.Core.Path.{◌≡◌}
use Prim.Native.Nat.{◌-◌}
use Rattle.present.proofs.Loop.{turned}
use Rattle.present.proofs.decrypt_from.Given as goal

abbrev pub invariant-loop-r : goal.invariant-loop-r
invariant-loop-r l = l.s ≡ turned l.k l.initial.s (31 - l.r)
