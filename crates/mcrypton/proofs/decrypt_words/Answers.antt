use mathlib.Core.Path.{◌∙◌}
use Rattle.mcrypton.proofs.Remaining.{from_last, walked_decrypt}
use Rattle.mcrypton.proofs.decrypt_words.Goals as goal

pub by_words-requires : goal.by_words-requires
by_words-requires c = from_last _ c.requires

pub returns : goal.returns
returns c = c.by_words.ensures ∙ walked_decrypt 0 _ _
