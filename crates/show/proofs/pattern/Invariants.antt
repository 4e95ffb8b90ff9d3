-- The bytes below the index are in place, and x is the next.
use lib.ListN.{length}
use Rattle.show.proofs.Filling.{Filled}
use Rattle.show.proofs.pattern.Given as goal

abbrev pub invariant-loop-b : goal.invariant-loop-b
invariant-loop-b l = Filled l.step l.initial.x (length l.initial.out) l.b-index l.out l.x
