use Rattle.rounds.proofs.Steps.{gamma_is}
use Rattle.rounds.proofs.gamma.Goals as goal

pub returns : goal.returns
returns c = gamma_is _ _ _ c.index_offset-o.ensures.0 c.gamma_row.ensures c.gamma_row-2.ensures c.gamma_row-3.ensures c.gamma_row-4.ensures
