-- UTF-8 by the grammar of RFC 3629, section 4: a table of the ranges that the bytes of a character lie in.
use Rattle.std.specs.Prelude.{ℕ, ◌≤◌, Bool, true, false, ◌&&◌, ◌||◌, leb}
use mathlib.Core.List.{List, [], ◌∷◌, ◌++◌, Memᴰ}
use Rattle.octets.specs.Bytes.{if◌then◌otherwise◌}

-- the bytes from low to high, both among them
infix 68 ◌to◌
pub data Range : Type 0 where
  ◌to◌ : ℕ → ℕ → Range

-- UTF8-tail
abbrev pub tail : Range
tail = 0x80 to 0xBF

-- UTF8-char: a row for each alternative of UTF8-1, UTF8-2, UTF8-3 and UTF8-4, a range for each byte
unfoldable pub forms : List (List Range)
forms =
    (0x00 to 0x7F ∷ [])
    ∷ (0xC2 to 0xDF ∷ tail ∷ [])
    ∷ (0xE0 to 0xE0 ∷ 0xA0 to 0xBF ∷ tail ∷ [])
    ∷ (0xE1 to 0xEC ∷ tail ∷ tail ∷ [])
    ∷ (0xED to 0xED ∷ 0x80 to 0x9F ∷ tail ∷ [])
    ∷ (0xEE to 0xEF ∷ tail ∷ tail ∷ [])
    ∷ (0xF0 to 0xF0 ∷ 0x90 to 0xBF ∷ tail ∷ tail ∷ [])
    ∷ (0xF1 to 0xF3 ∷ tail ∷ tail ∷ tail ∷ [])
    ∷ (0xF4 to 0xF4 ∷ 0x80 to 0x8F ∷ tail ∷ tail ∷ [])
    ∷ []

-- ---- as a proposition

-- bytes that lie in a row's ranges, one in each
pub data Fits : List Range → List ℕ → Type 0 where
  none : Fits [] []
  more : {low high x : ℕ} {ranges : List Range} {s : List ℕ} → low ≤ x → x ≤ high → Fits ranges s → Fits (low to high ∷ ranges) (x ∷ s)

-- UTF8-octets: characters, one after the other
pub data Utf8 : List ℕ → Type 0 where
  empty : Utf8 []
  char : {form : List Range} {c s : List ℕ} → Memᴰ form forms → Fits form c → Utf8 s → Utf8 (c ++ s)

-- ---- as a test

unfoldable pub inside : Range → ℕ → Bool
inside (low to high) x = leb low x && leb x high

-- the rows whose first range has x in it, each without that range
unfoldable pub after : ℕ → List (List Range) → List (List Range)
after x [] = []
after x ([] ∷ rows) = after x rows
after x ((r ∷ row) ∷ rows) = if inside r x then row ∷ after x rows otherwise after x rows

-- the test p passes at a row
unfoldable pub some : List (List Range) → (List Range → Bool) → Bool
some [] p = false
some (row ∷ rows) p = p row || some rows p

-- bytes that lie in the ranges that a character has left, and then characters
unfoldable pub meets : List ℕ → List Range → Bool
meets [] [] = true
meets [] (r ∷ ranges) = false
meets (x ∷ s) [] = some (after x forms) (meets s)
meets (x ∷ s) (r ∷ ranges) = inside r x && meets s ranges

unfoldable pub well_formed : List ℕ → Bool
well_formed s = meets s []
