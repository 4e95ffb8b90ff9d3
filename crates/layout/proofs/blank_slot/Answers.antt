-- `layout::blank_slot` meets its contract.
use borrow.Author.Rules.{rules}
use Rattle.layout.specs.Layout.{sheet_size, mark_at, field_at}
use Rattle.layout.proofs.Slots.{blank_no, blank_field}
use Rattle.layout.proofs.blank_slot.Goals as goal

pub overflow_add-a : goal.overflow_add-a
overflow_add-a c = unfold sheet_size mark_at in search rules

pub slice_bounds-all_zero-end : goal.slice_bounds-all_zero-end
slice_bounds-all_zero-end c = unfold sheet_size mark_at in search rules

pub overflow_add-b : goal.overflow_add-b
overflow_add-b c = unfold sheet_size field_at in search rules

pub slice_bounds-all_zero-end-then-all_zero : goal.slice_bounds-all_zero-end-then-all_zero
slice_bounds-all_zero-end-then-all_zero c = unfold sheet_size field_at in search rules

pub returns-then-all_zero : goal.returns-then-all_zero
returns-then-all_zero c = search (blank_field)

pub returns-else-all_zero : goal.returns-else-all_zero
returns-else-all_zero c = rw c.if-all_zero.false (search (blank_no))
