-- `slots::unseal::open_field` meets its contract.
use borrow.Author.Rules.{rules}
use Rattle.layout.specs.Layout.{sheet_size, field_at}
use Rattle.slots.proofs.Opening.{field_opened}
use Rattle.slots.proofs.unseal.open_field.Goals as goal

pub overflow_add-b : goal.overflow_add-b
overflow_add-b c = unfold sheet_size field_at in search rules

pub slice_bounds-cbc_decrypt-end : goal.slice_bounds-cbc_decrypt-end
slice_bounds-cbc_decrypt-end c = unfold sheet_size field_at in search rules

pub returns : goal.returns
returns c = search field_opened
