-- `slots::seal::put_field` meets its contract.
use borrow.Author.Rules.{rules}
use Rattle.layout.specs.Layout.{sheet_size, field_at}
use Rattle.slots.proofs.Sealing.{field_put}
use Rattle.slots.proofs.seal.put_field.Goals as goal

pub overflow_add-b : goal.overflow_add-b
overflow_add-b c = unfold sheet_size field_at in search rules

pub slice_bounds-seal_caption-end : goal.slice_bounds-seal_caption-end
slice_bounds-seal_caption-end c = unfold sheet_size field_at in search rules

pub returns : goal.returns
returns c = search (field_put, rules)
