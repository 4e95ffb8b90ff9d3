-- `slots::seal::put_caption` meets its contract.
use borrow.Author.Rules.{rules}
use Rattle.layout.proofs.Fits.{slot_long, slot_header, slot_placed}
use Rattle.slots.proofs.Sealing.{caption_written}
use Rattle.slots.proofs.seal.put_caption.Goals as goal

pub sheet_shape-h-requires : goal.sheet_shape-h-requires
sheet_shape-h-requires c = search slot_header

pub last_write-w-requires : goal.last_write-w-requires
last_write-w-requires c = search slot_long

pub put_slot-requires : goal.put_slot-requires
put_slot-requires c = (search rules, search slot_placed)

pub returns : goal.returns
returns c = search caption_written
