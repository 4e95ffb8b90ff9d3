-- `text::is_ascii` meets its contract.
use borrow.Author.Rules.{rules}
use Rattle.text.proofs.Ways.{gathered_next}
use Rattle.text.proofs.is_ascii.Goals as goal

pub loop-b-preserved : goal.loop-b-preserved
loop-b-preserved c = search (gathered_next, rules)
