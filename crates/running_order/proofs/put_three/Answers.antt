-- `running_order::put_three` meets its contract.
use mathlib.Core.Path.{refl}
use native.Mathlib.Omega.{arith}
use Rattle.running_order.proofs.Lines.{one_put, two_put, three_put}
use Rattle.running_order.proofs.put_three.Goals as goal

pub returns-then-x-lt10 : goal.returns-then-x-lt10
returns-then-x-lt10 c = one_put _ _ _ c.if-x-lt10.true c.byte.ensures

pub returns-then-x-lt100 : goal.returns-then-x-lt100
returns-then-x-lt100 c = rw (c.byte-then-x-lt100-2.ensures, c.byte-then-x-lt100.ensures) (two_put _ _ _ (omega arith) (omega arith) refl)

pub returns-else-x-lt100 : goal.returns-else-x-lt100
returns-else-x-lt100 c =
    rw (c.byte-else-x-lt100-3.ensures, c.byte-else-x-lt100-2.ensures, c.byte-else-x-lt100.ensures) (three_put _ _ _ (omega arith) (omega arith) refl)
