-- `octets::fill_zero` meets its contract.
use Rattle.octets.specs.Bytes.{zeros}
use Rattle.octets.proofs.fill_zero.Goals as goal

pub returns : goal.returns
unfolding zeros
returns c = c.fill.ensures.after (λ y e. e)
