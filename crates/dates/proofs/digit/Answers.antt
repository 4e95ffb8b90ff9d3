-- `dates::digit` meets its contract.
use borrow.Author.Rules.{rules}
use Rattle.dates.proofs.DateText.{digit_read}
use Rattle.dates.proofs.digit.Goals as goal

pub returns : goal.returns
returns c = search (digit_read, rules)
