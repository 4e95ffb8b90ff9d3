-- `mcrypton::path_round` meets its contract.
use borrow.Author.Tests.{eq-eqb, ne_eqb}
use Rattle.mcrypton.specs.Cipher.{by_words}
use Rattle.mcrypton.proofs.path_round.Goals as goal

pub returns-then-bit-eq1 : goal.returns-then-bit-eq1
unfolding by_words
returns-then-bit-eq1 c = simp (eq-eqb _ _ c.if-bit-eq1.true, c.word_round.ensures)

pub returns-else-bit-eq1 : goal.returns-else-bit-eq1
unfolding by_words
returns-else-bit-eq1 c = simp (ne_eqb _ _ c.if-bit-eq1.false, c.nibble_round.ensures)
