use mathlib.Core.Path.{ap, ◌∙◌}
use mathlib.Core.List.{List}
use Prim.Native.Nat.{ℕ}
use Rattle.present_rounds.specs.Tables.{gather}
use Rattle.present_rounds.proofs.ByTables.{gather_box_table, gather_box_below, gather_box_is}
use Rattle.present_rounds.proofs.inverse_layers.Goals as goal

pub gather-requires : goal.gather-requires
gather-requires c = gather_box_below

pub returns : goal.returns
returns c = c.gather.ensures ∙ ap (λ (t : List ℕ). gather t c.args.s) gather_box_table ∙ gather_box_is c.args.s
