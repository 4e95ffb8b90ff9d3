use Rattle.mcrypton.proofs.WordsOf.{words_eight}
use borrow.Author.Rules.{rules}
use Rattle.mcrypton.proofs.block_words.Goals as goal

pub returns : goal.returns
returns c = simp (c.from_be_bytes.ensures, c.from_be_bytes-2.ensures, c.from_be_bytes-3.ensures, c.from_be_bytes-4.ensures) (words_eight _ (search rules))
