use mathlib.Core.Path.{◌≡◌}
use native.Mathlib.Omega.{arith}
use borrow.Author.Tests.{ne_eqb}
use Rattle.schedule.specs.Schedule.{by_count, forward4, forward6, forward8, forward_words, forward}
use Rattle.schedule.proofs.Register.forward.Goals as goal

pub returns-in-4 : goal.returns-in-4
unfolding forward forward_words by_count forward4
returns-in-4 c = simp (c.in-4.is, c.rotate.ensures)

pub returns-in-6 : goal.returns-in-6
unfolding forward forward_words by_count forward6
returns-in-6 c = simp (c.in-6.is, c.rotate-in-6.ensures, c.rotate-in-6-2.ensures)

pub returns-in_default : goal.returns-in_default
unfolding forward forward_words by_count forward8
returns-in_default c =
    let p : c.args.self.count ≡ 4 → ⊥ = λ e. omega arith in
    let q : c.args.self.count ≡ 6 → ⊥ = λ e. omega arith in
    simp (ne_eqb _ _ p, ne_eqb _ _ q, c.rotate-in_default.ensures, c.rotate-in_default-2.ensures)
