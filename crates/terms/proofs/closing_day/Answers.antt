-- `terms::closing_day` meets its contract.
use borrow.Author.Rules.{rules}
use Rattle.terms.proofs.Terms.{closing_inside, closing_read}
use Rattle.terms.proofs.closing_day.Goals as goal

pub number-requires : goal.number-requires
number-requires c = search (closing_inside, rules)

pub returns : goal.returns
returns c = search (closing_read, rules)
