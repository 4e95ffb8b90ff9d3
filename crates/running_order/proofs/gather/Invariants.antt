-- `running_order::gather` meets its contract. The loop's invariant: the numbers of the slots below i that are shown are the first n.
use Rattle.running_order.specs.Inner.{Holds}
use Rattle.running_order.specs.Order.{shown_numbers}
use Rattle.running_order.proofs.gather.Given as goal

abbrev pub invariant-loop-i : goal.invariant-loop-i
invariant-loop-i l = Holds l.numbers l.n (shown_numbers l.sheet l.terms l.day l.i)
