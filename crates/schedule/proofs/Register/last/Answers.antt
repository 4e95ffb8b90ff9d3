use borrow.Author.Tests.{eq-eqb, ne_eqb}
use Rattle.schedule.specs.Schedule.{last_word}
use Rattle.schedule.proofs.Register.last.Goals as goal

pub returns-then-count-eq4 : goal.returns-then-count-eq4
unfolding last_word
returns-then-count-eq4 c = simp (eq-eqb _ _ c.if-count-eq4.true)

pub returns-else-count-eq4 : goal.returns-else-count-eq4
unfolding last_word
returns-else-count-eq4 c = simp (ne_eqb _ _ c.if-count-eq4.false)
