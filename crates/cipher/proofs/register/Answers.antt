use Rattle.cipher.specs.Key.{key_register}
use borrow.Author.Rules.{rules}
use Rattle.cipher.proofs.register.Goals as goal

pub returns : goal.returns
unfolding key_register
returns c = search rules
