-- `in_two_parts` is safe: the first part is a block, and the second isn't empty.
use borrow.Author.Rules.{rules}
use Rattle.modes.proofs.Authentication.{block_first}
use Rattle.show_steps.proofs.in_two_parts.Goals as goal

pub steps-requires : goal.steps-requires
steps-requires g c = block_first _ _ (search rules) (search rules)
