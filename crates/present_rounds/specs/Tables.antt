-- For the contracts of inner functions: the layers by tables, one entry for each byte of the state.
use Rattle.std.specs.Prelude.{ℕ, zero, suc, ◌+◌, ◌*◌, ◌/◌, ◌%◌, ◌^◌, ◌<◌, List, [], ◌∷◌, get_or}
use Rattle.present_rounds.specs.Digits.{sum, bit}

-- f a, f (a + 1) .., n of them
unfoldable pub listed : ℕ → ℕ → (ℕ → ℕ) → List ℕ
listed zero a f = []
listed (suc n) a f = f a ∷ listed n (suc a) f

-- bit b of the nibble x at place u * b
unfoldable pub strewn : ℕ → ℕ → ℕ
strewn u x = sum 4 (λ b. bit x b * 2 ^ (u * b))

-- the entry of a byte x: the box f on both nibbles, their bits strewn, those of the high nibble d places higher
unfoldable pub entry : ℕ → ℕ → (ℕ → ℕ) → ℕ → ℕ
entry u d f x = strewn u (f (x % 16)) + strewn u (f (x / 16)) * 2 ^ d

-- the table for pLayer after the box f, and for its inverse after f
unfoldable pub spreads : (ℕ → ℕ) → List ℕ
spreads f = listed 256 0 (entry 16 1 f)

unfoldable pub gathers : (ℕ → ℕ) → List ℕ
gathers f = listed 256 0 (entry 4 16 f)

-- byte i of x, counted from the right
abbrev pub byte : ℕ → ℕ → ℕ
byte x i = x / 256 ^ i % 256

-- the entries for the eight bytes of s, each at its place
unfoldable pub spread : List ℕ → ℕ → ℕ
spread t s = sum 8 (λ i. get_or t (byte s i) 0 * 2 ^ (2 * i))

unfoldable pub gather : List ℕ → ℕ → ℕ
gather t s = sum 8 (λ i. get_or t (byte s i) 0 * 2 ^ (32 * (i % 2) + i / 2))

-- every entry is below m
pub record Below (m : ℕ) (t : List ℕ) : Type 0 where
  pub at : (i : ℕ) → get_or t i 0 < m
