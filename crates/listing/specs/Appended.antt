-- Text put into a buffer at a place: the contracts of inner functions speak of it.
use Rattle.std.specs.Prelude.{ℕ, ◌+◌, ◌≤◌, ◌≡◌, List, length}
use Rattle.octets.specs.Bytes.{put}

-- the text xs, of at most k bytes, is put into the buffer l from place a: r is the place after it, and m the buffer then
pub record Appended (k : ℕ) (l : List ℕ) (a : ℕ) (xs : List ℕ) (r : ℕ) (m : List ℕ) : Type 0 where
  pub bytes : m ≡ put l a xs
  pub next : r ≡ a + length xs
  pub within : r ≤ a + k
