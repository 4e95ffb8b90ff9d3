use Rattle.verdicts.proofs.Verdicts.{fit_header, fit_class, class_found}
use Rattle.verdicts.proofs.class_verdict.Goals as goal

pub sheet_shape-h-requires : goal.sheet_shape-h-requires
sheet_shape-h-requires c = search fit_header

pub size_verdict-requires : goal.size_verdict-requires
size_verdict-requires c = search fit_class

pub returns : goal.returns
returns c = search class_found
