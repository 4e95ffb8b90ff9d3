-- `panels::joined_blocks` meets its contract. The loop's invariant: i blocks are joined.
use Rattle.std.proofs.Common.{◌≡◌, ◌*◌, ◌≤◌, length, take}
use Rattle.panels.specs.Ctr.{joined}
use Rattle.panels.specs.Steps.{block_of}
use Rattle.panels.proofs.joined_blocks.Given as goal

abbrev pub invariant-loop-i : goal.invariant-loop-i
invariant-loop-i l = (take (8 * l.i) l.s ≡ joined (block_of l.a) l.i) × (length l.s ≡ 256) × (length l.a ≡ 32) × (l.n ≤ 32)
