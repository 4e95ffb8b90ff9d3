-- At the loop's head v holds the register after r - 1 updates, and s is the state after r - 1 rounds.
use mathlib.Core.Path.{◌≡◌, refl}
use Prim.Native.Nat.{ℕ, ◌+◌, ◌-◌}
use native.Mathlib.Omega.{arith}
use Rattle.present.specs.Present.{after}
use Rattle.present_schedule.proofs.Steps.{begun, one_more}
use Rattle.present.proofs.Loop.{encrypt_more, encrypt_ended}
use Rattle.present.proofs.encrypt_from.Goals as goal

pub loop-r-init : goal.loop-r-init
unfolding after
loop-r-init c = (begun _, refl)

pub loop-r-preserved : goal.loop-r-preserved
loop-r-preserved c =
    let l = c.loop-r in
    let r : ℕ = l.r - 1 in
    let q : l.r ≡ r + 1 = omega arith in
    let p : l.r + 1 - 1 ≡ r + 1 = omega arith in
    rw p (one_more r l.invariant.0 (rw q at c.update-v.ensures), encrypt_more _ r l.invariant.0 c.round_key.ensures l.invariant.1 c.both_layers-s.ensures)

pub returns : goal.returns
returns c = let l = c.loop-r in encrypt_ended _ (l.r - 1) (omega arith) l.invariant.0 c.round_key-2.ensures l.invariant.1
