-- `faults::slots_fault` meets its contract. The loop's invariant: the first fault from slot i on is that from slot 0 on.
use mathlib.Core.Path.{◌≡◌}
use Rattle.faults.specs.Inner.{slots_fault}
use Rattle.faults.proofs.slots_fault.Given as goal

abbrev pub invariant-loop-i : goal.invariant-loop-i
invariant-loop-i l = slots_fault l.s l.i ≡ slots_fault l.s 0
