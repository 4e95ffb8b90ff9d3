use Rattle.layout.proofs.Fits.{slot_header, slot_placed}
use Rattle.verdicts.proofs.Verdicts.{written_no, written_yes}
use Rattle.verdicts.proofs.written_verdict.Goals as goal

pub sheet_shape-requires : goal.sheet_shape-requires
sheet_shape-requires c = search slot_header

pub blank_slot-requires : goal.blank_slot-requires
blank_slot-requires c = search slot_placed

pub returns-then-blank_slot : goal.returns-then-blank_slot
returns-then-blank_slot c = search written_no

pub returns : goal.returns
returns c = search written_yes
