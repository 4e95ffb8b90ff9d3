use Rattle.captions_c.proofs.Crossing.{crosses_dated}
use Rattle.captions_c.proofs.captions_dated_read.Goals as goal

pub returns : goal.returns
returns c = crosses_dated _ _ _ _ c.from.ensures c.dated_read-a.ensures
