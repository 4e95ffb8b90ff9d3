-- `chip_bench::register_at` meets its contract. At the loop's head v is the register after i steps.
use native.Mathlib.Omega.{arith}
use Rattle.chip_bench.proofs.Walk.{begun, onward, there}
use Rattle.chip_bench.proofs.register_at.Goals as goal

pub loop-i-init : goal.loop-i-init
loop-i-init c = begun c.requires.0

pub forward-next-requires : goal.forward-next-requires
forward-next-requires c = omega (arith, c.loop-i.invariant.round, c.requires.1, c.loop-i-test.true)

pub loop-i-preserved : goal.loop-i-preserved
loop-i-preserved c = onward _ c.loop-i.invariant c.forward-next.ensures

pub returns : goal.returns
returns c = there _ (omega (arith, c.loop-i.auto)) c.loop-i-test.false c.loop-i.invariant
