-- `layout::last_write` meets its contract.
use borrow.Author.Rules.{rules}
use Rattle.layout.specs.Layout.{last_write}
use Rattle.layout.proofs.last_write.Goals as goal

pub returns : goal.returns
returns c = unfold last_write in search rules
