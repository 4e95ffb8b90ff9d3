-- `chip_bench::register_at` meets its contract. At the loop's head v is the register after i steps.
use Rattle.chip_bench.proofs.Walk.{Ahead}
use Rattle.chip_bench.proofs.register_at.Given as goal

abbrev pub invariant-loop-i : goal.invariant-loop-i
invariant-loop-i l = Ahead l.initial.v l._i l.v
