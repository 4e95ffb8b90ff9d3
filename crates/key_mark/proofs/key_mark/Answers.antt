-- `key_mark::key_mark` meets its contract.
use borrow.Author.Rules.{rules}
use Rattle.key_mark.proofs.Mark.{mark_made}
use Rattle.key_mark.proofs.key_mark.Goals as goal

pub encrypt-sealed-requires : goal.encrypt-sealed-requires
encrypt-sealed-requires c = search rules

pub returns : goal.returns
returns c = search (mark_made, rules)
