-- At the loop's head 31 - r rounds are taken back, in the form in which the code keeps the state.
use mathlib.Core.Path.{◌≡◌, refl, ap, ap₂, ◌∙◌}
use Prim.Native.Nat.{ℕ, ◌-◌}
use native.Mathlib.Omega.{arith}
use lib.Bits.{bit_xor}
use lib.ListN.{get_or}
use Rattle.present_rounds.specs.Layers.{p_layer}
use Rattle.present.proofs.Loop.{turned, turned_more, decrypted}
use Rattle.present.proofs.decrypt_from.Goals as goal

pub loop-r-init : goal.loop-r-init
unfolding turned
loop-r-init c = refl

pub loop-r-preserved : goal.loop-r-preserved
loop-r-preserved c =
    let l = c.loop-r in
    turned_more _ _ l.r c.loop-r-test.true l.auto.r l.invariant c.inverse_layers.ensures

pub returns : goal.returns
returns c =
    let l = c.loop-r in
    let k = c.moved_keys-k in
    let q : l.r ≡ 0 = omega arith in
    c.p_layer.ensures
    ∙ ap p_layer (l.invariant ∙ ap₂ (λ (s r : ℕ). turned k.result s (31 - r)) (ap (λ (x : ℕ). bit_xor x (get_or k.result 31 0)) c.inverse_p_layer.ensures) q)
    ∙ decrypted k.ensures.keys (record { at = k.ensures.below }) c.args.c
