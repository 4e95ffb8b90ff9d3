use Rattle.present_rounds.proofs.ByTables.{entry_is}
use Rattle.present_rounds.proofs.gather_entry.Goals as goal

pub returns : goal.returns
returns c = rw c.from.ensures (entry_is c.args.s c.args.i c.requires.0 c.byte_at.ensures)
