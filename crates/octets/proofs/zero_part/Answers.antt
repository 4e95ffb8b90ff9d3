-- `octets::zero_part` meets its contract.
use borrow.Author.Rules.{rules}
use Rattle.octets.proofs.Zeros.{zero_span}
use Rattle.octets.proofs.zero_part.Goals as goal

pub returns : goal.returns
returns c = search (zero_span, rules)
