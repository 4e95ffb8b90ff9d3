-- `mcrypton::by_words` meets its contract: two rounds after two, none of twelve remains.
use mathlib.Core.Path.{sym, ◌∙◌}
use Rattle.mcrypton.proofs.Remaining.{remaining, two_rounds, begun_walk}
use Rattle.mcrypton.proofs.by_words.Goals as goal

pub returns : goal.returns
unfolding remaining
returns g c =
    let d = c.DIRECTION-d.result in
    rw (← c.DIRECTION-d.ensures) (c.phi.ensures
    ∙ sym
    (two_rounds d 10 0 _ _ c.two_rounds.ensures.1
    ∙ two_rounds d 8 2 _ _ c.two_rounds-2.ensures.1
    ∙ two_rounds d 6 4 _ _ c.two_rounds-3.ensures.1
    ∙ two_rounds d 4 6 _ _ c.two_rounds-4.ensures.1
    ∙ two_rounds d 2 8 _ _ c.two_rounds-5.ensures.1
    ∙ two_rounds d 0 10 _ _ c.two_rounds-6.ensures.1)
    ∙ begun_walk d 0 _ _ c.key.ensures c.sigma-a0.ensures)
