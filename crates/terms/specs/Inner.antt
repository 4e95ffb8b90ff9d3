-- What contracts between functions cite.
use Rattle.std.specs.Prelude.{ℕ, ◌+◌, ◌*◌, ◌<◌, Bool, ◌≡◌, List, leb, length}
use Rattle.octets.specs.Bytes.{number, part}

-- day j of the openings and closings together
unfoldable pub day_fits : List ℕ → ℕ → Bool
day_fits t j = leb (number (part t (2 + 2 * j) 2)) 36524

-- a list as long as a term sheet of n slots
pub record TermsOf (t : List ℕ) (n : ℕ) : Type 0 where
  pub size : length t ≡ 2 + 4 * n
  pub few : n < 65536
