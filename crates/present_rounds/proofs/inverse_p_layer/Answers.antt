use mathlib.Core.Path.{ap, ◌∙◌}
use mathlib.Core.List.{List}
use Prim.Native.Nat.{ℕ}
use Rattle.present_rounds.specs.Tables.{gather}
use Rattle.present_rounds.proofs.ByTables.{gather_table, gather_below, gather_alone_is}
use Rattle.present_rounds.proofs.inverse_p_layer.Goals as goal

pub gather-requires : goal.gather-requires
gather-requires c = gather_below

pub returns : goal.returns
returns c = c.gather.ensures ∙ ap (λ (t : List ℕ). gather t c.args.s) gather_table ∙ gather_alone_is c.args.s
