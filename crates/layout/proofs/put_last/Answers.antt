-- `layout::put_last` meets its contract.
use Rattle.layout.proofs.Stores.{last_stored}
use Rattle.layout.proofs.put_last.Goals as goal

pub returns : goal.returns
returns c = search last_stored
