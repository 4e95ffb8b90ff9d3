-- `running_order::put_shown` meets its contract.
use borrow.Author.Rules.{rules}
use Rattle.running_order.proofs.Shown.{shown_within, shown_count, shown_carry, sorted_count, lines_few, shown_put}
use Rattle.running_order.proofs.put_shown.Goals as goal

pub slice_bounds-numbers-end : goal.slice_bounds-numbers-end
slice_bounds-numbers-end c = search (shown_within, rules)

pub slice_bounds-sort-end : goal.slice_bounds-sort-end
slice_bounds-sort-end c = search (shown_count, rules)

pub slice_bounds-spare-end : goal.slice_bounds-spare-end
slice_bounds-spare-end c = search (shown_within, rules)

pub slice_bounds-sort-end-2 : goal.slice_bounds-sort-end-2
slice_bounds-sort-end-2 c = search (shown_count, rules)

pub slice_bounds-put_lines-end : goal.slice_bounds-put_lines-end
slice_bounds-put_lines-end c = search (sorted_count, rules)

pub put_lines-requires : goal.put_lines-requires
put_lines-requires c = record { sheet_of = search rules; terms_of = search rules; carry = search (shown_carry, rules); few = search (lines_few, rules); start = search rules }

pub returns : goal.returns
returns c = search (shown_put, rules)
