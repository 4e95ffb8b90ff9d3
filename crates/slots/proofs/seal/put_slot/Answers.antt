-- `slots::seal::put_slot` meets its contract.
use borrow.Author.Rules.{rules}
use Rattle.layout.specs.Layout.{sheet_size}
use Rattle.slots.proofs.Sealing.{slot_stored}
use Rattle.slots.proofs.seal.put_slot.Goals as goal

pub put_last-requires : goal.put_last-requires
put_last-requires c = unfold sheet_size in search rules

pub returns : goal.returns
returns c = search slot_stored
