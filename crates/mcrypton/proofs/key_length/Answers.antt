use Rattle.mcrypton.proofs.KeyLengths.{is_key, no_key}
use borrow.Author.Rules.{rules}
use Rattle.mcrypton.proofs.key_length.Goals as goal

pub returns-in-8 : goal.returns-in-8
returns-in-8 c = is_key _ c.in-8.is

pub returns-in_default : goal.returns-in_default
returns-in_default c = search (no_key, rules)
