-- `panels::counter_blocks` meets its contract. The loop's invariant: x-index counter blocks are there, and the counter has wrapped.
use Rattle.std.proofs.Common.{◌≡◌, ◌+◌, ◌%◌, ◌^◌, ◌≤◌, length}
use Rattle.panels.specs.Steps.{Counters}
use Rattle.panels.proofs.counter_blocks.Given as goal

abbrev pub invariant-loop-x : goal.invariant-loop-x
invariant-loop-x l = Counters l.c l.x-index l.x-items × (l.t ≡ (l.c + l.x-index) % 2 ^ 64) × (length l.x-items ≡ l.n) × (l.n ≤ 32)
