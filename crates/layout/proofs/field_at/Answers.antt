-- `layout::field_at` meets its contract.
use borrow.Author.Rules.{rules}
use Rattle.layout.specs.Layout.{field_at}
use Rattle.layout.proofs.field_at.Goals as goal

pub returns : goal.returns
returns c = unfold field_at in search rules
