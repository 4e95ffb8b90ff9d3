-- `listing::can_list` meets its contract.
use borrow.Author.Rules.{rules}
use Rattle.listing.proofs.Whole.{listable_long, listable_fit}
use Rattle.listing.proofs.can_list.Goals as goal

pub returns-then-sheet-le-LARGEST : goal.returns-then-sheet-le-LARGEST
returns-then-sheet-le-LARGEST c = search (listable_fit, rules)

pub returns-else-sheet-le-LARGEST : goal.returns-else-sheet-le-LARGEST
returns-else-sheet-le-LARGEST c = search (listable_long, rules)
