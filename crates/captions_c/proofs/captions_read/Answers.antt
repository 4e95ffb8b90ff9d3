use Rattle.captions_c.proofs.Crossing.{crosses_pointed}
use Rattle.captions_c.proofs.captions_read.Goals as goal

pub returns : goal.returns
returns c = crosses_pointed _ _ _ _ c.from.ensures c.read-a.ensures
