-- `slots::unseal::show` meets its contract.
use borrow.Author.Rules.{rules}
use Rattle.slots.proofs.Opening.{written_header, written_placed, written_short, shown_loaded}
use Rattle.slots.proofs.unseal.show.Goals as goal

pub sheet_shape-h-requires : goal.sheet_shape-h-requires
sheet_shape-h-requires c = search written_header

pub show_slot-requires : goal.show_slot-requires
show_slot-requires c = (search written_placed, search rules, search written_short)

pub returns : goal.returns
returns c = search shown_loaded
