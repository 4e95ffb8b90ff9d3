use mathlib.Core.Path.{sym, ap, ◌∙◌}
use Rattle.octets.specs.Bytes.{be}
use Rattle.octets.proofs.Each.{each_none, each_next, each_all}
use borrow.Author.Rules.{rules}
use Rattle.present.proofs.last_all.Goals as goal
use Rattle.present.proofs.last_all.Invariants.{ended}

pub loop-i-init : goal.loop-i-init
loop-i-init c = search (each_none, rules)

pub loop-i-preserved : goal.loop-i-preserved
loop-i-preserved c =
    let l = c.loop-i in
    (each_next 0 ended l.i _ _ (search rules) (search rules) (c.block_bytes.ensures ∙ ap (be 8) c.p_layer.ensures) ∙ l.invariant.0, search rules)

pub returns : goal.returns
returns c = let l = c.loop-i in sym (each_all 0 ended l.i l.b _ (search rules) (search rules)) ∙ l.invariant.0
