-- `dates::two_digits` meets its contract.
use borrow.Author.Rules.{rules}
use Rattle.dates.proofs.DateText.{two_read}
use Rattle.dates.proofs.two_digits.Goals as goal

pub returns : goal.returns
returns c = search (two_read, rules)
