-- `modes::block_count` meets its contract.
use borrow.Author.Rules.{rules}
use Rattle.modes.proofs.Authentication.{count_none, count_more}
use Rattle.modes.proofs.block_count.Goals as goal

pub returns-then-len-eq0 : goal.returns-then-len-eq0
returns-then-len-eq0 c = search (count_none, rules)

pub returns-else-len-eq0 : goal.returns-else-len-eq0
returns-else-len-eq0 c = search (count_more, rules)
