use Rattle.rounds.proofs.Steps.{phi_is}
use Rattle.rounds.proofs.phi.Goals as goal

pub returns : goal.returns
returns c = phi_is _ c.phi_row.ensures c.phi_row-2.ensures c.phi_row-3.ensures c.phi_row-4.ensures
