-- `layout::sheet_size` meets its contract.
use borrow.Author.Rules.{rules}
use Rattle.layout.specs.Layout.{sheet_size}
use Rattle.layout.proofs.sheet_size.Goals as goal

pub returns : goal.returns
returns c = unfold sheet_size in search rules
