-- `show_bench::array_of` starts at the register of round 0.
use mathlib.Core.Path.{ap}
use borrow.Author.Rules.{rules}
use Rattle.schedule.specs.Schedule.{start}
use Rattle.schedule.specs.declared.Register.{Register}
use Rattle.show_bench.proofs.array_of.Goals as goal

pub array_after-requires : goal.array_after-requires
unfolding start
array_after-requires c = (ap (λ (u : Register). u.round) c.start.ensures, search rules)
