-- What the inner functions ensure.
use Rattle.std.specs.Prelude.{ℕ, zero, suc, ◌≡◌, ◌<◌, Option, None, Some, List, [], ◌∷◌, eqb, ltb, length, replicate}
use Rattle.octets.specs.Bytes.{if◌then◌otherwise◌}
use Rattle.text.specs.Grammar.{Range, ◌to◌, tail, well_formed}
use Rattle.text.specs.Place.{reached}

-- ---- a character by its first byte

-- how many bytes follow the first byte x of a character, or none where x begins none
unfoldable pub following : ℕ → Option ℕ
following x =
    if ltb x 0x80 then Some 0 otherwise
    if ltb x 0xC2 then None otherwise
    if ltb x 0xE0 then Some 1 otherwise
    if ltb x 0xF0 then Some 2 otherwise
    if ltb x 0xF5 then Some 3 otherwise
    None

-- the range of the byte after x, in a character of more than one
unfoldable pub second_low : ℕ → ℕ
second_low x = if eqb x 0xE0 then 0xA0 otherwise if eqb x 0xF0 then 0x90 otherwise 0x80

unfoldable pub second_high : ℕ → ℕ
second_high x = if eqb x 0xED then 0x9F otherwise if eqb x 0xF4 then 0x8F otherwise 0xBF

unfoldable pub second : ℕ → Range
second x = second_low x to second_high x

-- the ranges of the n bytes that a character has left after x
unfoldable pub ahead : ℕ → ℕ → List Range
ahead x zero = []
ahead x (suc n) = second x ∷ replicate n tail

-- ---- character by character

-- between the beginnings of s and of its end r there are whole characters
pub record Passes (s r : List ℕ) : Type 0 where
  pub shorter : length r < length s
  pub same : well_formed r ≡ well_formed s

-- ---- byte by byte

-- how far the byte y and those of s after it go, where so many are left of a character after y, or y can't stand there
unfoldable pub onward : ℕ → List ℕ → Option ℕ → ℕ
onward y s None = 0
onward y s (Some n) = suc (reached s (ahead y n))

-- y where n bytes were left after x: so many are left after y, or it can't stand there
pub record Left (n x y : ℕ) (answer : Option ℕ) : Type 0 where
  pub same : (s : List ℕ) → reached (y ∷ s) (ahead x n) ≡ onward y s answer
