use mathlib.Core.Path.{◌≡◌}
use native.Mathlib.Omega.{arith}
use borrow.Author.Tests.{ne_eqb}
use Rattle.schedule.specs.Schedule.{by_count, start4, start6, start8, start_words, back_start}
use Rattle.schedule.proofs.Register.backward_start.Goals as goal

pub returns-in-4 : goal.returns-in-4
unfolding back_start start_words by_count start4
returns-in-4 c = simp (c.in-4.is, c.rotate.ensures, c.rotate-in-4.ensures, c.rotate-in-4-2.ensures, c.rotate-in-4-3.ensures)

pub returns-in-6 : goal.returns-in-6
unfolding back_start start_words by_count start6
returns-in-6 c = simp (c.in-6.is, c.rotate-in-6.ensures, c.rotate-in-6-2.ensures, c.rotate-in-6-3.ensures, c.rotate-in-6-4.ensures, c.rotate-in-6-5.ensures, c.rotate-in-6-6.ensures)

pub returns-in_default : goal.returns-in_default
unfolding back_start start_words by_count start8
returns-in_default c =
    let p : c.args.self.count ≡ 4 → ⊥ = λ e. omega arith in
    let q : c.args.self.count ≡ 6 → ⊥ = λ e. omega arith in
    simp (ne_eqb _ _ p, ne_eqb _ _ q, c.rotate-in_default.ensures, c.rotate-in_default-2.ensures, c.rotate-in_default-3.ensures, c.rotate-in_default-4.ensures, c.rotate-in_default-5.ensures, c.rotate-in_default-6.ensures, c.rotate-in_default-7.ensures, c.rotate-in_default-8.ensures)
