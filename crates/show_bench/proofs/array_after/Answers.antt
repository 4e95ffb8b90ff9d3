-- `show_bench::array_after` is safe: at the loop's head v is the register of round i.
use mathlib.Core.Path.{◌≡◌, ap, ◌∙◌}
use Prim.Native.Nat.{ℕ, ◌+◌}
use native.Mathlib.Omega.{arith}
use Rattle.schedule.specs.Schedule.{forward}
use Rattle.schedule.specs.declared.Register.{Register}
use Rattle.show_bench.proofs.array_after.Goals as goal

pub round_key-requires-in-loop-i : goal.round_key-requires-in-loop-i
unfolding forward
round_key-requires-in-loop-i c =
    let e : c.forward-next.result.round ≡ c.loop-i.i + 1 = ap (λ (x : Register). x.round) c.forward-next.ensures ∙ ap (λ (n : ℕ). n + 1) c.loop-i.invariant in
    omega (arith, e, c.requires.1, c.loop-i-test.true)

pub loop-i-preserved : goal.loop-i-preserved
unfolding forward
loop-i-preserved c = ap (λ (x : Register). x.round) c.forward-next.ensures ∙ ap (λ (n : ℕ). n + 1) c.loop-i.invariant
