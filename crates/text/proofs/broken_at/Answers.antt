-- `text::broken_at` meets its contract.
use borrow.Author.Rules.{rules}
use Rattle.text.proofs.Breaks.{reaches_none, breaks_end, breaks_here, reaches_next}
use Rattle.text.proofs.broken_at.Goals as goal

pub loop-i-init : goal.loop-i-init
loop-i-init c = search (reaches_none, rules)

pub returns-in-None : goal.returns-in-None
returns-in-None c = search (breaks_here, rules)

pub loop-i-preserved : goal.loop-i-preserved
loop-i-preserved c = search (reaches_next, rules)

pub returns : goal.returns
returns c = search (breaks_end, rules)
