-- `layout::fit_slot` meets its contract.
use native.Mathlib.Omega.{arith}
use borrow.Author.Rules.{rules}
use Rattle.layout.specs.Layout.{sheet_size, mark_at}
use Rattle.layout.proofs.Marks.{slot_blank, slot_written}
use Rattle.layout.proofs.fit_slot.Goals as goal

pub number-number-requires : goal.number-number-requires
number-number-requires c = unfold sheet_size mark_at in search rules

pub overflow_add-a : goal.overflow_add-a
overflow_add-a c = unfold sheet_size mark_at in search rules

pub number-rest-requires : goal.number-rest-requires
number-rest-requires c = unfold sheet_size mark_at in search rules

pub returns-then-number-eq0 : goal.returns-then-number-eq0
returns-then-number-eq0 c = let a = c.args in slot_blank a.s.now a.h a.i c.requires.slot_in (λ k. omega (arith, c.type_inv.s k)) _ c.mark_at-a.ensures _ c.number-number.ensures.value _ c.number-rest.ensures.value c.if-number-eq0.true _ c.blank_after.ensures

pub returns-else-number-eq0 : goal.returns-else-number-eq0
returns-else-number-eq0 c = let a = c.args in slot_written a.s.now a.h a.i c.requires.slot_in (λ k. omega (arith, c.type_inv.s k)) _ c.mark_at-a.ensures _ c.number-number.ensures.value _ c.number-rest.ensures.value c.if-number-eq0.false _ c.requires.w_value _ c.written_after.ensures
