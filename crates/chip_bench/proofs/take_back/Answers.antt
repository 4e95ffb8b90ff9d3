-- `chip_bench::take_back` meets its contract. At the loop's head the way back from x, with as many rounds to go as u says, is that from a.
use mathlib.Core.Path.{◌≡◌, refl, ap, ◌∙◌}
use Prim.Native.Nat.{ℕ, ◌-◌}
use native.Mathlib.Omega.{arith}
use Rattle.schedule.specs.Schedule.{backward}
use Rattle.schedule.specs.declared.Register.{Register}
use Rattle.chip_bench.specs.Bench.{taken_back}
use Rattle.chip_bench.proofs.Walk.{back_more, back_done}
use Rattle.chip_bench.proofs.take_back.Goals as goal

pub loop-i-init : goal.loop-i-init
loop-i-init c = (c.requires, omega arith, refl)

pub round_key-requires : goal.round_key-requires
round_key-requires c = omega (arith, c.loop-i.invariant)

pub backward-before-requires : goal.backward-before-requires
backward-before-requires c = omega (arith, c.loop-i.invariant, c.loop-i-test.true)

pub loop-i-preserved : goal.loop-i-preserved
unfolding backward
loop-i-preserved c =
    let l = c.loop-i in
    let e : c.backward-before.result.round ≡ l.u.round - 1 = ap (λ (x : Register). x.round) c.backward-before.ensures in (
      l.invariant.0,
      omega (arith, l.invariant, e, c.loop-i-test.true),
      ap (λ (n : ℕ). taken_back n c.backward-before.result c.inverse_round-y.result) e
          ∙ back_more l.u _ _ l.x _ l.u.round (omega (arith, l.invariant, c.loop-i-test.true)) c.round_key.ensures c.inverse_round-y.ensures c.backward-before.ensures
          ∙ l.invariant.2,
    )

pub round_key-requires-2 : goal.round_key-requires-2
round_key-requires-2 c = omega (arith, c.loop-i.invariant)

pub returns : goal.returns
returns c =
    let l = c.loop-i in
    back_done l.u _ l.x _ l.u.round (omega (arith, l.invariant, c.loop-i-test.false)) c.round_key-2.ensures c.sigma.ensures ∙ l.invariant.2
