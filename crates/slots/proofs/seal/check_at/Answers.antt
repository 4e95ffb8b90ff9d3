-- `slots::seal::check_at` meets its contract.
use borrow.Author.Rules.{rules}
use Rattle.layout.specs.Layout.{sheet_size, field_at}
use Rattle.slots.proofs.Sealing.{check_part}
use Rattle.slots.proofs.seal.check_at.Goals as goal

pub overflow_add-b : goal.overflow_add-b
overflow_add-b c = unfold sheet_size field_at in search rules

pub slice_bounds-mac_two-end : goal.slice_bounds-mac_two-end
slice_bounds-mac_two-end c = unfold sheet_size field_at in search rules

pub returns : goal.returns
returns c = search check_part
