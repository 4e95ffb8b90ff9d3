-- At the loop's head v holds the register after r - 1 updates, and s is the state after r - 1 rounds.
use mathlib.Core.Path.{◌≡◌}
use Prim.Native.Nat.{◌-◌}
use Rattle.present.specs.Present.{after}
use Rattle.present_schedule.specs.Registers.{keys_from}
use Rattle.present_schedule.proofs.Steps.{At}
use Rattle.present.proofs.encrypt_from.Given as goal

abbrev pub invariant-loop-r : goal.invariant-loop-r
invariant-loop-r l = At l.initial.v (l.r - 1) l.v × (l.s ≡ after (keys_from l.initial.v) l.initial.s (l.r - 1))
