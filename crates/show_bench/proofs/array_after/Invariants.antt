-- `show_bench::array_after` is safe: at the loop's head v is the register of round i.
use mathlib.Core.Path.{◌≡◌}
use Rattle.show_bench.proofs.array_after.Given as goal

abbrev pub invariant-loop-i : goal.invariant-loop-i
invariant-loop-i l = l.v.round ≡ l.i
