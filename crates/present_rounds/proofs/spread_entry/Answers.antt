use mathlib.Core.Path.{ap, ◌∙◌}
use mathlib.Core.List.{List}
use Prim.Native.Nat.{ℕ}
use lib.ListN.{get_or}
use Rattle.present_rounds.specs.Tables.{byte}
use Rattle.present_rounds.proofs.ByTables.{entry_is, spread_box_below, spread_box_table}
use Rattle.present_rounds.proofs.spread_entry.Goals as goal

pub returns : goal.returns
returns c =
    let a = c.args in
    let e = entry_is a.s a.i spread_box_below c.byte_at.ensures in
    (e.0 ∙ ap (λ (t : List ℕ). get_or t (byte a.s a.i) 0) spread_box_table, e.1)
