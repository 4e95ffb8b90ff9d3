use mathlib.Core.Path.{◌∙◌}
use Rattle.mcrypton.proofs.WordsOf.{word_at, word_past}
use Rattle.mcrypton.proofs.word.Goals as goal

pub returns-then-i-s : goal.returns-then-i-s
returns-then-i-s c = c.from_be_bytes.ensures ∙ word_at _ c.args.i c.if-i-s.true

pub returns : goal.returns
returns c = word_past _ c.args.i c.if-i-s.false
