-- `modes::chain_start` meets its contract.
use Rattle.modes.proofs.Authentication.{chain_start}
use Rattle.modes.proofs.chain_start.Goals as goal

pub returns : goal.returns
returns c = chain_start
