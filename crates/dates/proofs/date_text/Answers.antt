-- `dates::date_text` meets its contract.
use borrow.Author.Rules.{rules}
use Rattle.dates.specs.DateText.{date_text}
use Rattle.dates.proofs.date_text.Goals as goal

pub returns : goal.returns
returns c = unfold date_text in search rules
