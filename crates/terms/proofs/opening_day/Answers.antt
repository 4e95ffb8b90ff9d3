-- `terms::opening_day` meets its contract.
use borrow.Author.Rules.{rules}
use Rattle.terms.proofs.Terms.{opening_inside, opening_read}
use Rattle.terms.proofs.opening_day.Goals as goal

pub number-requires : goal.number-requires
number-requires c = search (opening_inside, rules)

pub returns : goal.returns
returns c = search (opening_read, rules)
