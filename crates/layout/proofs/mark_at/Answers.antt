-- `layout::mark_at` meets its contract.
use borrow.Author.Rules.{rules}
use Rattle.layout.specs.Layout.{mark_at}
use Rattle.layout.proofs.mark_at.Goals as goal

pub returns : goal.returns
returns c = unfold mark_at in search rules
