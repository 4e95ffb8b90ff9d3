-- `show::pattern` meets its contract.
use mathlib.Core.Path.{refl}
use native.Mathlib.Omega.{arith}
use Rattle.show.proofs.Filling.{fill_none, fill_more, fill_end}
use Rattle.show.proofs.pattern.Goals as goal

pub loop-b-init : goal.loop-b-init
loop-b-init c = fill_none _ _ _ _

pub loop-b-preserved : goal.loop-b-preserved
loop-b-preserved c = fill_more _ _ _ c.loop-b.b-index _ _ _ c.loop-b.invariant c.loop-b-test.true c.loop-b.auto.out (omega arith) refl

pub returns : goal.returns
returns c = fill_end _ _ _ c.loop-b.b-index _ _ c.loop-b.invariant c.loop-b-test.false c.loop-b.auto.out
