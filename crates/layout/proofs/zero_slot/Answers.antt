-- `layout::zero_slot` meets its contract.
use borrow.Author.Rules.{rules}
use Rattle.layout.specs.Layout.{sheet_size, mark_at, field_at}
use Rattle.layout.proofs.Stores.{slot_zeroed}
use Rattle.layout.proofs.zero_slot.Goals as goal

pub zero_part-requires : goal.zero_part-requires
zero_part-requires c = unfold sheet_size field_at in search rules

pub zero_part-requires-2 : goal.zero_part-requires-2
zero_part-requires-2 c = unfold sheet_size mark_at in search rules

pub returns : goal.returns
returns c = search slot_zeroed
