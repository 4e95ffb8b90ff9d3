-- Where bytes break: the place of the first byte at which no well-formed text can go on.
use Rattle.std.specs.Prelude.{ℕ, suc, ◌+◌, ◌≤◌, ◌<◌, max, List, [], ◌∷◌, ◌++◌, length, take}
use Rattle.octets.specs.Bytes.{if◌then◌otherwise◌}
use Rattle.text.specs.Grammar.{Range, forms, inside, after, Utf8}

-- ---- as a proposition

-- bytes that a well-formed text begins with
pub record GoesOn (s : List ℕ) : Type 0 where
  pub rest : List ℕ
  pub text : Utf8 (s ++ rest)

-- the bytes before p can go on, and with the one at p they can't; where all of them can, p is their number
pub record BreaksAt (s : List ℕ) (p : ℕ) : Type 0 where
  pub within : p ≤ length s
  pub goes : GoesOn (take p s)
  pub breaks : p < length s → GoesOn (take (p + 1) s) → ⊥

-- ---- as a number

-- one more than the most that f gives at a row, or 0 where there is none
unfoldable pub furthest : List (List Range) → (List Range → ℕ) → ℕ
furthest [] f = 0
furthest (row ∷ rows) f = max (suc (f row)) (furthest rows f)

-- how many bytes lie in the ranges that a character has left, and then in characters, as far as they go
unfoldable pub reached : List ℕ → List Range → ℕ
reached [] ranges = 0
reached (x ∷ s) [] = furthest (after x forms) (reached s)
reached (x ∷ s) (r ∷ ranges) = if inside r x then suc (reached s ranges) otherwise 0

unfoldable pub broken_at : List ℕ → ℕ
broken_at s = reached s []
