-- `mcrypton::walk_all` meets its contract. The loop's invariant: what remains of the arrays after r rounds is what remained at its start.
use mathlib.Core.Path.{refl, ◌∙◌}
use Rattle.mcrypton.specs.Walks.{step, walk_key, walked}
use Rattle.mcrypton.proofs.Each.{each_round, each_ended}
use Rattle.mcrypton.proofs.walk_all.Goals as goal

pub loop-r-init : goal.loop-r-init
loop-r-init c = (c.requires, refl)

pub loop-r-preserved : goal.loop-r-preserved
loop-r-preserved c =
    let d = c.args.d in
    (c.step-next.ensures.1, c.loop-r.invariant.1 ∙ each_round d 0 (step d) (walk_key d) c.loop-r.r _ c.loop-r.a c.loop-r-test.true c.step-next.ensures.0 c.key-in-loop-r.ensures c.round_all.ensures)

pub returns : goal.returns
unfolding walked
returns c =
    let d = c.args.d in
    let l = c.loop-r in
    each_ended d 0 (step d) (walk_key d) l.r _ _ c.args.a.now l.a c.loop-r-test.false l.invariant.1 c.key.ensures c.sigma_all.ensures c.phi_all.ensures
