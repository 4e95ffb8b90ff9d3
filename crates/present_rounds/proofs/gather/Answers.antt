use Rattle.present_rounds.proofs.ByTables.{gather_is}
use Rattle.present_rounds.proofs.gather.Goals as goal

pub returns : goal.returns
returns c = gather_is _ c.args.s c.gather_entry.ensures.0 c.gather_entry-2.ensures.0 c.gather_entry-3.ensures.0 c.gather_entry-4.ensures.0 c.gather_entry-5.ensures.0 c.gather_entry-6.ensures.0 c.gather_entry-7.ensures.0 c.gather_entry-8.ensures.0
