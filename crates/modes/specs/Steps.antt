-- What only the contracts of CMAC's steps say.
use Rattle.std.specs.Prelude.{ℕ, ◌+◌, ◌-◌, ◌*◌, ◌/◌, ◌≤◌, ◌<◌, ◌≡◌, List, ◌++◌, length}
use Rattle.octets.specs.Bytes.{part}
use Rattle.modes.specs.Cmac.{block_count}

-- a message in two parts, x and then y: x is whole blocks, and the last block lies in y
pub record TwoParts (x y : List ℕ) : Type 0 where
  pub in_blocks : length x ≡ 8 * (length x / 8)
  pub last : length x + 8 ≤ 8 * block_count (x ++ y)

-- the blocks of m after the first a and up to b stand at the beginning of s, and none of them is the last
pub record BlocksIn (m s : List ℕ) (a b : ℕ) : Type 0 where
  pub order : a ≤ b
  pub before : b < block_count m
  pub inside : 8 * (b - a) ≤ length s
  pub same : part m (8 * a) (8 * (b - a)) ≡ part s 0 (8 * (b - a))
