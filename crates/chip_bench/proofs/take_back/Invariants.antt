-- `chip_bench::take_back` meets its contract. At the loop's head the way back from x, with as many rounds to go as u says, is that from a.
use mathlib.Core.Path.{◌≡◌}
use Prim.Native.Nat.{◌+◌, ◌<◌}
use Rattle.chip_bench.specs.Bench.{taken_back}
use Rattle.chip_bench.proofs.take_back.Given as goal

abbrev pub invariant-loop-i : goal.invariant-loop-i
invariant-loop-i l = (l.initial.u.round < 13) × (l.u.round + l._i ≡ l.initial.u.round) × (taken_back l.u.round l.u l.x ≡ taken_back l.initial.u.round l.initial.u l.initial.x)
