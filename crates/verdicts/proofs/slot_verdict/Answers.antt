use Rattle.verdicts.proofs.Verdicts.{fit_header, slot_no, slot_yes}
use Rattle.verdicts.proofs.slot_verdict.Goals as goal

pub sheet_shape-h-requires : goal.sheet_shape-h-requires
sheet_shape-h-requires c = search fit_header

pub returns-then-h-slot : goal.returns-then-h-slot
returns-then-h-slot c = search slot_no

pub returns : goal.returns
returns c = search slot_yes
