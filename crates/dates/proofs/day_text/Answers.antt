-- `dates::day_text` meets its contract.
use borrow.Author.Rules.{rules}
use Rattle.dates.proofs.DateText.{text_date, text_none}
use Rattle.dates.proofs.day_text.Goals as goal

pub returns-in-Some : goal.returns-in-Some
returns-in-Some c = search (text_date, rules)

pub returns-in-None : goal.returns-in-None
returns-in-None c = search (text_none, rules)
