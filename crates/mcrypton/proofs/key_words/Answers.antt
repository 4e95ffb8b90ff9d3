use Rattle.schedule.specs.Schedule.{eight_words}
use Rattle.mcrypton.proofs.key_words.Goals as goal

pub returns : goal.returns
unfolding eight_words
returns c = simp (c.word.ensures, c.word-2.ensures, c.word-3.ensures, c.word-4.ensures, c.word-5.ensures, c.word-6.ensures, c.word-7.ensures, c.word-8.ensures)
