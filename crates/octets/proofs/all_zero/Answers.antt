-- `octets::all_zero` meets its contract.
use borrow.Author.Rules.{rules}
use Rattle.octets.proofs.Zeros.{all_zero_next, all_zero_end}
use Rattle.octets.proofs.all_zero.Goals as goal

pub loop-b-preserved : goal.loop-b-preserved
loop-b-preserved c = search (all_zero_next, rules)

pub returns : goal.returns
returns c = search (all_zero_end, rules)
