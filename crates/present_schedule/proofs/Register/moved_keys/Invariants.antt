-- At the loop's head v holds the register after i updates, and the first i entries are done.
use mathlib.Core.Path.{◌≡◌}
use Prim.Native.Nat.{ℕ, ◌+◌, ◌<◌}
use lib.ListN.{get_or}
use Rattle.present_rounds.specs.Layers.{inverse_pLayer}
use Rattle.present_schedule.specs.Registers.{keys_from}
use Rattle.present_schedule.proofs.Steps.{At}
use Rattle.present_schedule.proofs.Register.moved_keys.Given as goal

abbrev pub invariant-loop-i : goal.invariant-loop-i
invariant-loop-i l = At l.initial.v l.i l.v × ((j : ℕ) → j < l.i → get_or l.x-items j 0 ≡ inverse_pLayer (keys_from l.initial.v (j + 1)))
