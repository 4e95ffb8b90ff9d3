-- `layout::blank_size` meets its contract.
use borrow.Author.Rules.{rules}
use Rattle.layout.proofs.blank_size.Goals as goal

pub sheet_size-requires : goal.sheet_size-requires
sheet_size-requires c = (search rules, search rules)
