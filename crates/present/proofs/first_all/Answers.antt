use mathlib.Core.Path.{sym, ap, ◌∙◌}
use mathlib.Core.List.{[]}
use Prim.Native.Nat.{ℕ}
use lib.Bits.{bit_xor}
use Rattle.octets.proofs.Each.{each_none, each_next, each_all}
use Rattle.present_rounds.specs.Layers.{inverse_pLayer}
use borrow.Author.Rules.{rules}
use Rattle.present.proofs.first_all.Goals as goal
use Rattle.present.proofs.first_all.Invariants.{begun}

pub loop-i-init : goal.loop-i-init
loop-i-init c = search (each_none, rules)

pub loop-i-preserved : goal.loop-i-preserved
loop-i-preserved c =
    let l = c.loop-i in
    let k = c.args.k in
    let y = ap (λ (x : ℕ). bit_xor x k) (c.inverse_p_layer.ensures ∙ ap inverse_pLayer c.block_number.ensures) in
    (each_next [] (begun k) l.i _ _ (search rules) (search rules) y ∙ l.invariant.0, search rules)

pub returns : goal.returns
returns c = let l = c.loop-i in sym (each_all [] (begun c.args.k) l.i l.a _ (search rules) (search rules)) ∙ l.invariant.0
