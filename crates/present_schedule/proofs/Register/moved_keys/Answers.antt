-- At the loop's head v holds the register after i updates, and the first i entries are done.
use mathlib.Core.Path.{ap, ◌∙◌}
use Prim.Native.Nat.{◌+◌}
use native.Mathlib.Nat.{not-suc-le-zero}
use native.Mathlib.Omega.{arith}
use Rattle.present_rounds.specs.Layers.{inverse_pLayer}
use Rattle.present_schedule.specs.Registers.{keys_from}
use Rattle.present_schedule.proofs.Steps.{begun, one_more, key_at, stored, keys_from_lem}
use borrow.Author.Rules.{rules}
use Rattle.present_schedule.proofs.Register.moved_keys.Goals as goal

pub loop-i-init : goal.loop-i-init
loop-i-init c = (begun _, λ j l. absurd (not-suc-le-zero l))

pub loop-i-preserved : goal.loop-i-preserved
loop-i-preserved c =
    let l = c.loop-i in
    let key = c.inverse_p_layer.ensures ∙ ap inverse_pLayer (key_at l.i l.invariant.0 c.round_key.ensures) in
    (one_more l.i l.invariant.0 c.update-v.ensures, stored _ (λ j. inverse_pLayer (keys_from c.args.self (j + 1))) l.i _ (search rules) l.invariant.1 key)

pub returns : goal.returns
returns c =
    let l = c.loop-i in
    let r = c.self.inside in
    record {
      keys = record { at = λ j m. l.invariant.1 j (omega arith) };
      below = rw (← c.self.view_is) (keys_from_lem r.high r.low r.wide (search rules) c.self.invariant).at;
    }
