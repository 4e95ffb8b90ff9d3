-- `dates::day_of_text` meets its contract.
use borrow.Author.Rules.{rules}
use borrow.Author.Tests.{not-true, not-false}
use Rattle.dates.proofs.DateText.{text_size, text_other, text_spelled}
use Rattle.dates.proofs.day_of_text.Goals as goal

pub returns-then-text-ne10 : goal.returns-then-text-ne10
returns-then-text-ne10 c = search (text_size, rules)

pub returns-then-not-same_bytes : goal.returns-then-not-same_bytes
returns-then-not-same_bytes c = search (text_other, not-true, rules)

pub returns : goal.returns
returns c = search (text_spelled, not-false, rules)
