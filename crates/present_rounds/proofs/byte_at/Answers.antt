use Rattle.present_rounds.proofs.ByTables.{byte_is}
use Rattle.present_rounds.proofs.byte_at.Goals as goal

pub returns : goal.returns
returns c = byte_is c.args.s c.args.i
