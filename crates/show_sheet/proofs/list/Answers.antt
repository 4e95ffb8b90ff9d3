-- `list` is safe: what is listed is within the text.
use borrow.Author.Rules.{rules}
use Rattle.listing.proofs.Whole.{listed_within, listed_count}
use Rattle.show_sheet.proofs.list.Goals as goal

pub slice_bounds-text-end : goal.slice_bounds-text-end
slice_bounds-text-end g c = search (listed_within, rules)

pub slice_bounds-text-end-2 : goal.slice_bounds-text-end-2
slice_bounds-text-end-2 g c = search (listed_count, rules)
