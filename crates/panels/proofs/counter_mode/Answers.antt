-- `panels::counter_mode` meets its contract. The loop's invariant: i times 256 bytes are done, whole blocks, and the rest is still to do from the counter c.
use Rattle.std.proofs.Common.{◌≡◌, ◌+◌, ◌*◌, ◌/◌, length, refl, arith, rules}
use Rattle.octets.proofs.Parts.{put_span}
use Rattle.panels.proofs.Blocks.{walk_more, walk_end}
use Rattle.panels.proofs.counter_mode.Goals as goal

pub loop-i-preserved : goal.loop-i-preserved
loop-i-preserved c =
    let l = c.loop-i in
    let e : 256 * (l.i + 1) ≡ 256 * l.i + 256 = omega arith in
    (rw e (walk_more _ _ _ (256 * l.i) l.c l.out l.invariant.0 l.invariant.2 _ _ _ (omega (arith, c.loop-i-test.true)) (omega (arith, c.loop-i-test.true)) c.seal_part.ensures (put_span l.out _ _ (256 * l.i) 256 refl (search rules)) refl), l.invariant.1, search rules)

pub returns-then-p-a-le8 : goal.returns-then-p-a-le8
returns-then-p-a-le8 c =
    let l = c.loop-i in
    let e : l.i ≡ length c.args.p.now / 256 = omega (arith, l.auto.i-end, c.loop-i-test.false) in
    walk_end _ _ _ (256 * (length c.args.p.now / 256)) l.c l.out (rw e at l.invariant.0) l.invariant.2 _ c.seal_block.ensures

pub returns : goal.returns
returns c =
    let l = c.loop-i in
    let e : l.i ≡ length c.args.p.now / 256 = omega (arith, l.auto.i-end, c.loop-i-test.false) in
    walk_end _ _ _ (256 * (length c.args.p.now / 256)) l.c l.out (rw e at l.invariant.0) l.invariant.2 _ c.seal_part-2.ensures
