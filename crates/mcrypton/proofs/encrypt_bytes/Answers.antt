use mathlib.Core.Path.{ap, ◌∙◌}
use Rattle.rounds.specs.declared.Direction.TheVariants.{Encrypt}
use Rattle.mcrypton.specs.Bytes.{bytes_of}
use Rattle.mcrypton.specs.Walks.{walked}
use Rattle.mcrypton.proofs.Remaining.{from_first, walked_encrypt}
use Rattle.mcrypton.proofs.encrypt_bytes.Goals as goal

pub by_words-requires : goal.by_words-requires
by_words-requires c = from_first _ c.requires

pub returns : goal.returns
returns c = c.block_bytes.ensures ∙ ap bytes_of (c.by_words.ensures ∙ ap (walked Encrypt 0 _) c.block_words.ensures ∙ walked_encrypt 0 _ _)
