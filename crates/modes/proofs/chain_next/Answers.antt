-- `modes::chain_next` meets its contract.
use borrow.Author.Rules.{rules}
use Rattle.modes.proofs.Authentication.{chain_next}
use Rattle.modes.proofs.chain_next.Goals as goal

pub returns : goal.returns
returns c = search (chain_next, rules)
