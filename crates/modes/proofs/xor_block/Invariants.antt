-- The first i bytes are added.
use Rattle.std.proofs.Common.{◌≡◌, ℕ, ◌<◌, ◌≤◌, length, get_or}
use Rattle.std.specs.Int.Bits.{bit_xor}
use Rattle.modes.proofs.xor_block.Given as goal

abbrev pub invariant-loop-i : goal.invariant-loop-i
invariant-loop-i l =
    (length l.z ≡ 8)
    × ((j : ℕ) → j < l.i → get_or l.z j 0 ≡ bit_xor (get_or l.initial.z j 0) (get_or l.b-items j 0))
    × ((j : ℕ) → l.i ≤ j → get_or l.z j 0 ≡ get_or l.initial.z j 0)
