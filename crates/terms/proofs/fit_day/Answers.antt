-- `terms::fit_day` meets its contract.
use borrow.Author.Rules.{rules}
use Rattle.terms.proofs.Terms.{day_inside, day_read}
use Rattle.terms.proofs.fit_day.Goals as goal

pub number-requires : goal.number-requires
number-requires c = search (day_inside, rules)

pub returns : goal.returns
returns c = search (day_read, rules)
