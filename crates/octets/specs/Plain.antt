-- What the names of bytes come to, in plain values.
use Rattle.std.specs.Prelude.{ℕ, ◌/◌, ◌%◌, ◌<◌, ◌≡◌, List, [], ◌∷◌, ◌↔◌, length, get_or}
use Rattle.octets.specs.Bytes.{Bytes, be, zeros}

pub record Plain : Type 0 where
  -- numbers of 1, 2 and 4 bytes, high byte first
  pub one : (x : ℕ) → be 1 x ≡ x % 256 ∷ []
  pub two : (x : ℕ) → be 2 x ≡ x / 256 % 256 ∷ x % 256 ∷ []
  pub four : (x : ℕ) → be 4 x ≡ x / 16777216 % 256 ∷ x / 65536 % 256 ∷ x / 256 % 256 ∷ x % 256 ∷ []
  -- n zeros
  pub zeros_size : (n : ℕ) → length (zeros n) ≡ n
  pub zeros_are : (n i : ℕ) → get_or (zeros n) i 0 ≡ 0
  -- bytes are numbers below 256, and nothing else is asked of them
  pub bytes : (s : List ℕ) → Bytes s ↔ ((i : ℕ) → get_or s i 0 < 256)
