-- `mcrypton::by_path` meets its contract. The loop's invariant: what remains after r rounds is what remained at its start.
use mathlib.Core.Path.{refl, sym, ◌∙◌}
use Rattle.mcrypton.specs.Walks.{step, walk_key}
use Rattle.mcrypton.proofs.Remaining.{one_round, ended, begun_walk}
use Rattle.mcrypton.proofs.by_path.Goals as goal

pub loop-r-init : goal.loop-r-init
loop-r-init c = (c.requires, refl)

pub loop-r-preserved : goal.loop-r-preserved
loop-r-preserved c =
    let d = c.args.d in
    (c.step-next.ensures.1, c.loop-r.invariant.1 ∙ one_round d _ (step d) (walk_key d) c.loop-r.r _ _ c.loop-r-test.true c.step-next.ensures.0 c.key-in-loop-r.ensures c.path_round-array.ensures)

pub returns : goal.returns
returns c =
    let d = c.args.d in
    let l = c.loop-r in
    c.phi.ensures
    ∙ sym (l.invariant.1 ∙ ended d _ (step d) (walk_key d) l.r _ _ c.loop-r-test.false)
    ∙ begun_walk d _ _ _ c.key.ensures c.sigma-a.ensures
