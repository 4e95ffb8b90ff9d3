-- `panels::add_bytes` meets its contract. The loop's invariant: what remains is what there was to do.
use Rattle.std.proofs.Common.{◌≡◌, ◌≤◌, length}
use Rattle.panels.proofs.Blocks.{Added}
use Rattle.panels.proofs.add_bytes.Given as goal

abbrev pub invariant-loop-i : goal.invariant-loop-i
invariant-loop-i l = Added l.p l.s l.i l.out × (length l.p ≤ length l.s) × (length l.out ≡ length l.p)
