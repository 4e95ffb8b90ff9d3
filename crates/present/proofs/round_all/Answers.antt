use mathlib.Core.Path.{sym, ap, ◌∙◌}
use Prim.Native.Nat.{ℕ}
use lib.Bits.{bit_xor}
use Rattle.octets.proofs.Each.{each_none, each_here, each_all}
use borrow.Author.Rules.{rules}
use Rattle.present.proofs.round_all.Goals as goal
use Rattle.present.proofs.round_all.Invariants.{turn}

pub loop-s-init : goal.loop-s-init
loop-s-init c = search (each_none, rules)

pub loop-s-preserved : goal.loop-s-preserved
loop-s-preserved c =
    let l = c.loop-s in
    let k = c.args.k in
    each_here 0 (turn k) l.s-index _ (search rules) (ap (λ (x : ℕ). bit_xor x k) c.inverse_layers.ensures) ∙ l.invariant

pub returns : goal.returns
returns c = let l = c.loop-s in sym (each_all 0 (turn c.args.k) l.s-index l.a _ (search rules) (search rules)) ∙ l.invariant
