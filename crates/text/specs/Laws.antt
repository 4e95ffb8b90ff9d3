-- What holds of well-formed text (document 02, request 9): the grammar and the encoding of RFC 3629 are the same, where bytes break, and texts in plain values.
use Rattle.std.specs.Prelude.{ℕ, ◌+◌, ◌*◌, ◌^◌, ◌≤◌, ◌<◌, ◌≡◌, true, false, List, [], ◌∷◌, ◌++◌, length, take, ◌↔◌}
use Rattle.text.specs.Grammar.{Utf8, well_formed}
use Rattle.text.specs.Encoding.{CodePoint, CodePoints, Encoded, encode}
use Rattle.text.specs.Place.{GoesOn, BreaksAt, broken_at}

-- the bytes s are well formed, are the encoding of these code points, and their place is their length
pub record Whole (s points : List ℕ) : Type 0 where
  pub encoded : encode points ≡ s
  pub each : CodePoints points
  pub accepted : well_formed s ≡ true
  pub place : broken_at s ≡ length s

-- the bytes s are not well formed, and break at place p
pub record Broken (s : List ℕ) (p : ℕ) : Type 0 where
  pub refused : well_formed s ≡ false
  pub place : broken_at s ≡ p

-- in plain values
pub record Texts : Type 0 where
  -- the examples of section 7: A, not identical to, Alpha and a full stop; Korean; Japanese; a letter above U+FFFF after a byte order mark
  pub example_1 : Whole (0x41 ∷ 0xE2 ∷ 0x89 ∷ 0xA2 ∷ 0xCE ∷ 0x91 ∷ 0x2E ∷ []) (0x0041 ∷ 0x2262 ∷ 0x0391 ∷ 0x002E ∷ [])
  pub example_2 : Whole (0xED ∷ 0x95 ∷ 0x9C ∷ 0xEA ∷ 0xB5 ∷ 0xAD ∷ 0xEC ∷ 0x96 ∷ 0xB4 ∷ []) (0xD55C ∷ 0xAD6D ∷ 0xC5B4 ∷ [])
  pub example_3 : Whole (0xE6 ∷ 0x97 ∷ 0xA5 ∷ 0xE6 ∷ 0x9C ∷ 0xAC ∷ 0xE8 ∷ 0xAA ∷ 0x9E ∷ []) (0x65E5 ∷ 0x672C ∷ 0x8A9E ∷ [])
  pub example_4 : Whole (0xEF ∷ 0xBB ∷ 0xBF ∷ 0xF0 ∷ 0xA3 ∷ 0x8E ∷ 0xB4 ∷ []) (0xFEFF ∷ 0x233B4 ∷ [])
  -- no bytes; U+0000; the last code point, which is no character
  pub nothing : Whole [] []
  pub zero : Whole (0x00 ∷ []) (0x0000 ∷ [])
  pub last : Whole (0xF4 ∷ 0x8F ∷ 0xBF ∷ 0xBF ∷ []) (0x10FFFF ∷ [])
  -- overlong in two bytes, in three and in four
  pub overlong_2 : Broken (0xC1 ∷ 0xBF ∷ []) 0
  pub overlong_3 : Broken (0xE0 ∷ 0x9F ∷ 0xBF ∷ []) 1
  pub overlong_4 : Broken (0xF0 ∷ 0x8F ∷ 0xBF ∷ 0xBF ∷ []) 1
  -- the first surrogate; above U+10FFFF by the second byte, and by the first
  pub surrogate : Broken (0xED ∷ 0xA0 ∷ 0x80 ∷ []) 1
  pub above_F4 : Broken (0xF4 ∷ 0x90 ∷ 0x80 ∷ 0x80 ∷ []) 1
  pub above_F5 : Broken (0xF5 ∷ 0x80 ∷ 0x80 ∷ 0x80 ∷ []) 0
  -- a tail alone; letters that are cut off, at the end and before another
  pub tail_alone : Broken (0x41 ∷ 0x80 ∷ []) 1
  pub cut_off_2 : Broken (0x41 ∷ 0xC3 ∷ []) 2
  pub cut_off_3 : Broken (0xE2 ∷ 0x89 ∷ []) 2
  pub cut_off_4 : Broken (0xF0 ∷ 0xA3 ∷ 0x8E ∷ []) 3
  pub cut_off_within : Broken (0xE2 ∷ 0x89 ∷ 0x41 ∷ []) 2

-- ---- what is encoded, and how

pub record Encodings : Type 0 where
  -- a code point is a number below 0x110000 that is no surrogate
  pub code_point : (n : ℕ) → CodePoint n ↔ ((n < 0x110000) × (0xD800 ≤ n → n ≤ 0xDFFF → ⊥))
  -- and code points are a list of them
  pub no_points : CodePoints []
  pub points : (n : ℕ) (ns : List ℕ) → CodePoints (n ∷ ns) ↔ (CodePoint n × CodePoints ns)
  -- the table of section 3: the bits of a number in one, two, three and four bytes
  pub bits_1 : (n : ℕ) → n ≤ 0x7F → encode (n ∷ []) ≡ n ∷ []
  pub bits_2 : (a b : ℕ) → a < 2 ^ 5 → b < 2 ^ 6 → 0x80 ≤ a * 2 ^ 6 + b → encode ((a * 2 ^ 6 + b) ∷ []) ≡ (0b11000000 + a) ∷ (0b10000000 + b) ∷ []
  pub bits_3 : (a b c : ℕ) → a < 2 ^ 4 → b < 2 ^ 6 → c < 2 ^ 6 → 0x800 ≤ a * 2 ^ 12 + b * 2 ^ 6 + c
      → encode ((a * 2 ^ 12 + b * 2 ^ 6 + c) ∷ []) ≡ (0b11100000 + a) ∷ (0b10000000 + b) ∷ (0b10000000 + c) ∷ []
  pub bits_4 : (a b c d : ℕ) → a < 2 ^ 3 → b < 2 ^ 6 → c < 2 ^ 6 → d < 2 ^ 6 → 0x10000 ≤ a * 2 ^ 18 + b * 2 ^ 12 + c * 2 ^ 6 + d
      → encode ((a * 2 ^ 18 + b * 2 ^ 12 + c * 2 ^ 6 + d) ∷ []) ≡ (0b11110000 + a) ∷ (0b10000000 + b) ∷ (0b10000000 + c) ∷ (0b10000000 + d) ∷ []
  -- one after the other
  pub in_a_row : (ns ms : List ℕ) → encode (ns ++ ms) ≡ encode ns ++ encode ms
  -- every list of code points has its encoded bytes, and encoded bytes have code points, which are encoded as the bytes
  pub made : (ns : List ℕ) → CodePoints ns → Encoded (encode ns)
  pub encoded : (s : List ℕ) (r : Encoded s) → CodePoints r.points × (s ≡ encode r.points)

-- ---- where bytes break

pub record Breaks : Type 0 where
  -- the bytes before the place begin a text
  pub within : (s : List ℕ) → broken_at s ≤ length s
  pub before : (s : List ℕ) → GoesOn (take (broken_at s) s)
  pub goes_on : (s : List ℕ) (g : GoesOn s) → Utf8 (s ++ g.rest)
  -- with the byte at it they begin none
  pub at : (s rest : List ℕ) → broken_at s < length s → Utf8 (take (broken_at s + 1) s ++ rest) → ⊥
  -- a text has its length as its place
  pub whole : (s : List ℕ) → Utf8 s → broken_at s ≡ length s
  -- no other number is such a place
  pub place : (s : List ℕ) (p : ℕ) → BreaksAt s p ↔ (broken_at s ≡ p)

-- ---- the whole

pub record TextLaws : Type 0 where
  -- the test decides the grammar
  pub tested : (s : List ℕ) → (well_formed s ≡ true) ↔ Utf8 s
  -- bytes meet the grammar exactly if they are the encoding of code points
  pub exactly : (s : List ℕ) → Utf8 s ↔ Encoded s
  -- and of no others
  pub only : (ns ms : List ℕ) → encode ns ≡ encode ms → ns ≡ ms
  pub encodings : Encodings
  pub breaks : Breaks
  pub texts : Texts
