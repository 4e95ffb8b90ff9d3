-- `modes::cmac` meets its contract.
use borrow.Author.Tests.{not-false}
use borrow.Author.Rules.{rules}
use Rattle.modes.proofs.Authentication.{no_block_first}
use Rattle.modes.proofs.Answers.{refused_key, refused_span, accepted}
use Rattle.modes.proofs.cmac.Goals as goal

pub returns-then-not-key_length : goal.returns-then-not-key_length
returns-then-not-key_length c = search (refused_key)

pub returns-then-out-ne8 : goal.returns-then-out-ne8
returns-then-out-ne8 c = search (refused_span)

pub mac-requires : goal.mac-requires
mac-requires c = search (no_block_first, rules)

pub returns : goal.returns
returns c = search (accepted, not-false, rules)
