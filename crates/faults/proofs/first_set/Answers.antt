-- `faults::first_set` meets its contract. The loop's invariant: what is sought from place i on is what is sought from a on.
use borrow.Author.Rules.{rules}
use Rattle.faults.proofs.Places.{search_begun, search_out, search_here, search_next, search_end}
use Rattle.faults.proofs.first_set.Goals as goal

pub loop-i-init : goal.loop-i-init
loop-i-init c = search search_begun

pub returns-then-s-i : goal.returns-then-s-i
returns-then-s-i c = search (search_out, rules)

pub returns-then-s-i-ne0 : goal.returns-then-s-i-ne0
returns-then-s-i-ne0 c = search (search_here, rules)

pub loop-i-preserved : goal.loop-i-preserved
loop-i-preserved c = search (search_next, rules)

pub returns : goal.returns
returns c = search (search_end, rules)
