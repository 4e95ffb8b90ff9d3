-- `faults::first_set` meets its contract. The loop's invariant: what is sought from place i on is what is sought from a on.
use mathlib.Core.Path.{◌≡◌}
use Prim.Native.Nat.{◌+◌, ◌-◌}
use Rattle.faults.specs.Faults.{first_set}
use Rattle.faults.proofs.first_set.Given as goal

abbrev pub invariant-loop-i : goal.invariant-loop-i
invariant-loop-i l = first_set l.s l.i (l.a + l.n - l.i) ≡ first_set l.s l.a l.n
