use Rattle.present.specs.Registers.{register_of}
use Rattle.present.proofs.key_register.Goals as goal

pub returns-then-wide : goal.returns-then-wide
unfolding register_of
returns-then-wide c = rw (c.of_128.ensures, c.four_words-high.ensures, c.four_words.ensures, c.if-wide.true)

pub returns-else-wide : goal.returns-else-wide
unfolding register_of
returns-else-wide c = rw (c.of_80.ensures, c.four_words-high.ensures, c.if-wide.false)
