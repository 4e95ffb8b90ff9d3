use mathlib.Core.Path.{refl}
use Rattle.faults.proofs.First.{unfit_some}
use Rattle.verdicts.proofs.unfit.Goals as goal

pub unwrap-f-requires : goal.unwrap-f-requires
unwrap-f-requires c = rw (c.first_fault.ensures, unfit_some c.args.sheet.now c.requires) refl

pub returns : goal.returns
returns c = cc (unfit_some c.args.sheet.now c.requires)
