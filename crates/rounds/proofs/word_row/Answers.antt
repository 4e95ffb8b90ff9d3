use Rattle.rounds.specs.Array.{word_row}
use Rattle.rounds.proofs.word_row.Goals as goal

pub returns : goal.returns
unfolding word_row
returns c = cc
