use Rattle.rounds.specs.Array.{τ}
use Rattle.rounds.proofs.tau.Goals as goal

pub returns : goal.returns
unfolding τ
returns c = cc
