use Rattle.mcrypton.proofs.WordsOf.{bytes_pairs}
use borrow.Author.Rules.{rules}
use Rattle.mcrypton.proofs.block_bytes.Goals as goal

pub returns : goal.returns
returns c = bytes_pairs c.args.a (search rules) c.word_bytes-w.ensures c.word_bytes-x.ensures c.word_bytes-y.ensures c.word_bytes-z.ensures
