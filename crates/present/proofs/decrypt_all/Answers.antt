use native.Mathlib.Omega.{arith}
use Rattle.present.proofs.Loop.{each_begun, each_more, each_decrypted}
use borrow.Author.Rules.{rules}
use Rattle.present.proofs.decrypt_all.Goals as goal

pub loop-r-init : goal.loop-r-init
loop-r-init c = (search rules, each_begun _ _)

pub loop-r-preserved : goal.loop-r-preserved
loop-r-preserved c =
    let l = c.loop-r in
    (search rules, each_more c.moved_keys-k.result c.first_all-a.result l.r c.loop-r-test.true l.auto.r l.invariant.1 c.round_all.ensures)

pub returns : goal.returns
returns c =
    let a = c.args in
    let k = c.moved_keys-k in
    each_decrypted a.wide a.w a.b c.loop-r.r (omega arith) c.key_register.ensures k.ensures.keys (record { at = k.ensures.below })
    c.first_all-a.ensures c.loop-r.invariant.1 c.last_all.ensures
