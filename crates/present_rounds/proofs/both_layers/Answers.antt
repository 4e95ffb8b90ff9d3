use mathlib.Core.Path.{◌∙◌}
use Rattle.present_rounds.proofs.ByTables.{spread_is, spread_box_is}
use Rattle.present_rounds.proofs.both_layers.Goals as goal

pub returns : goal.returns
returns c =
    spread_is _ c.args.s c.spread_entry.ensures.0 c.spread_entry-2.ensures.0 c.spread_entry-3.ensures.0 c.spread_entry-4.ensures.0 c.spread_entry-5.ensures.0 c.spread_entry-6.ensures.0 c.spread_entry-7.ensures.0 c.spread_entry-8.ensures.0
    ∙ spread_box_is c.args.s
