-- `slots::unseal::show_slot` meets its contract.
use borrow.Author.Rules.{rules}
use Rattle.octets.proofs.Zeros.{zeros_size}
use Rattle.layout.specs.Layout.{sheet_size, mark_at}
use Rattle.slots.proofs.Opening.{length_few, length_inside, shown_other_check, shown, shown_tail}
use Rattle.slots.proofs.unseal.show_slot.Goals as goal

pub number-w-requires : goal.number-w-requires
number-w-requires c = unfold sheet_size mark_at in search rules

pub overflow_add-a : goal.overflow_add-a
overflow_add-a c = unfold sheet_size mark_at in search rules

pub number-len-requires : goal.number-len-requires
number-len-requires c = unfold sheet_size mark_at in search rules

pub returns-then-not-check_same : goal.returns-then-not-check_same
returns-then-not-check_same c = search (shown_other_check)

pub open_field-requires : goal.open_field-requires
open_field-requires c = (search rules, search (zeros_size, rules))

pub tail_zero-requires : goal.tail_zero-requires
tail_zero-requires c = search (length_inside, rules)

pub returns-then-not-tail_zero : goal.returns-then-not-tail_zero
returns-then-not-tail_zero c = search (shown_tail)

pub refuse_left-requires : goal.refuse_left-requires
refuse_left-requires c = (search rules, search (length_few, rules))

pub returns : goal.returns
returns c = search (shown)
