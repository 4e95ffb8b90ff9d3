-- `faults::zero_place` meets its contract.
use borrow.Author.Rules.{rules}
use Rattle.faults.proofs.Places.{place_one, place_out, place_in}
use Rattle.faults.proofs.zero_place.Goals as goal

pub returns-then-byte-ne2 : goal.returns-then-byte-ne2
returns-then-byte-ne2 c = search place_one

pub returns-then-z-min : goal.returns-then-z-min
returns-then-z-min c = search (place_in, rules)

pub returns : goal.returns
returns c = search (place_out, rules)
