-- `whole` is safe: no block stands before the message.
use borrow.Author.Rules.{rules}
use Rattle.modes.proofs.Authentication.{no_block_first}
use Rattle.show_steps.proofs.whole.Goals as goal

pub steps-requires : goal.steps-requires
steps-requires g c = search (no_block_first, rules)
