use Rattle.rounds.specs.Array.{π}
use Rattle.rounds.proofs.pi.Goals as goal

pub returns : goal.returns
unfolding π
returns c = cc
