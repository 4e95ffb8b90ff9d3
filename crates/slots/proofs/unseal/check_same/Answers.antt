-- `slots::unseal::check_same` meets its contract.
use borrow.Author.Rules.{rules}
use Rattle.layout.specs.Layout.{sheet_size, mark_at}
use Rattle.slots.proofs.Opening.{check_same}
use Rattle.slots.proofs.unseal.check_same.Goals as goal

pub overflow_add-a : goal.overflow_add-a
overflow_add-a c = unfold sheet_size mark_at in search rules

pub overflow_add-a-2 : goal.overflow_add-a-2
overflow_add-a-2 c = unfold sheet_size mark_at in search rules

pub slice_bounds-same_bytes-end-2 : goal.slice_bounds-same_bytes-end-2
slice_bounds-same_bytes-end-2 c = unfold sheet_size mark_at in search rules

pub returns : goal.returns
returns c = search check_same
