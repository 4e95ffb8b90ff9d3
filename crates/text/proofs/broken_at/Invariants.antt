-- `text::broken_at` meets its contract.
use Rattle.text.proofs.Breaks.{Reaches}
use Rattle.text.proofs.broken_at.Given as goal

abbrev pub invariant-loop-i : goal.invariant-loop-i
invariant-loop-i l = Reaches l.s l.i l.n l.x
