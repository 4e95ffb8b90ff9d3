-- `layout::blank_after` meets its contract.
use borrow.Author.Rules.{rules}
use borrow.Author.Tests.{ne_eqb}
use Rattle.layout.specs.Layout.{sheet_size, mark_at, field_at}
use Rattle.layout.proofs.Marks.{blank_numbers, blank_check, blank_rest}
use Rattle.layout.proofs.blank_after.Goals as goal
use Rattle.layout.proofs.blank_after.Goals.{then-rest-eq0, else-rest-eq0}

pub overflow_add-a : goal.overflow_add-a
overflow_add-a c = unfold sheet_size mark_at in search rules

pub overflow_add-a-then-rest-eq0 : goal.overflow_add-a-then-rest-eq0
overflow_add-a-then-rest-eq0 c = unfold sheet_size mark_at in search rules

pub slice_bounds-all_zero-end : goal.slice_bounds-all_zero-end
slice_bounds-all_zero-end c = unfold sheet_size mark_at in search rules

pub overflow_add-b : goal.overflow_add-b
overflow_add-b c = unfold sheet_size field_at in search rules

pub slice_bounds-all_zero-end-then-all_zero : goal.slice_bounds-all_zero-end-then-all_zero
slice_bounds-all_zero-end-then-all_zero c = unfold sheet_size field_at in search rules

pub returns-then-all_zero : goal.returns-then-all_zero
returns-then-all_zero c = elim c.if-rest-eq0.branch [ then-rest-eq0 w ↦ search (blank_rest, rules) | else-rest-eq0 w ↦ cc (ne_eqb c.args.rest 0 w.if-rest-eq0.false) ]

pub returns-else-all_zero : goal.returns-else-all_zero
returns-else-all_zero c = rw c.if-all_zero.false (elim c.if-rest-eq0.branch [ then-rest-eq0 w ↦ search (blank_check, rules) | else-rest-eq0 w ↦ search (blank_numbers) ])
