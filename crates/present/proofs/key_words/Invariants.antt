-- The first i words are those of the key.
use Rattle.std.proofs.Common.{◌≡◌, ℕ, ◌+◌, ◌*◌, ◌<◌, get_or, length}
use Rattle.present.proofs.key_words.Given as goal

abbrev pub invariant-loop-i : goal.invariant-loop-i
invariant-loop-i l = (length l.x-items ≡ 8)
    × ((j : ℕ) → j < l.i → 2 * j + 1 < length l.k → get_or l.x-items j 0 ≡ get_or l.k (2 * j) 0 * 256 + get_or l.k (2 * j + 1) 0)
