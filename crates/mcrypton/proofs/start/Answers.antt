use Rattle.schedule.specs.Schedule.{start}
use Rattle.mcrypton.proofs.WordsOf.{length_words}
use Rattle.mcrypton.proofs.start.Goals as goal

pub returns : goal.returns
unfolding start
returns c = simp (length_words, c.key_words.ensures)
