-- UTF-8 by the table of RFC 3629, section 3: the bits of a character's number, distributed over one to four bytes.
use Rattle.std.specs.Prelude.{ℕ, ◌+◌, ◌/◌, ◌%◌, ◌^◌, ◌<◌, ◌≤◌, ◌≡◌, List, [], ◌∷◌, ◌++◌, leb}
use Rattle.octets.specs.Bytes.{if◌then◌otherwise◌}

-- the number of a character: below 0x110000, and no surrogate (0xD800 to 0xDFFF)
pub record CodePoint (n : ℕ) : Type 0 where
  pub in_range : n < 0x110000
  pub no_surrogate : 0xD800 ≤ n → n ≤ 0xDFFF → ⊥

-- 0xxxxxxx
abbrev pub one : ℕ → List ℕ
one n = n ∷ []

-- 110xxxxx 10xxxxxx
abbrev pub two : ℕ → List ℕ
two n = (0b11000000 + n / 2 ^ 6) ∷ (0b10000000 + n % 2 ^ 6) ∷ []

-- 1110xxxx 10xxxxxx 10xxxxxx
abbrev pub three : ℕ → List ℕ
three n = (0b11100000 + n / 2 ^ 12) ∷ (0b10000000 + n / 2 ^ 6 % 2 ^ 6) ∷ (0b10000000 + n % 2 ^ 6) ∷ []

-- 11110xxx 10xxxxxx 10xxxxxx 10xxxxxx
abbrev pub four : ℕ → List ℕ
four n = (0b11110000 + n / 2 ^ 18) ∷ (0b10000000 + n / 2 ^ 12 % 2 ^ 6) ∷ (0b10000000 + n / 2 ^ 6 % 2 ^ 6) ∷ (0b10000000 + n % 2 ^ 6) ∷ []

-- the row of the table by the number's range
unfoldable pub encode_one : ℕ → List ℕ
encode_one n =
    if leb n 0x7F then one n otherwise
    if leb n 0x7FF then two n otherwise
    if leb n 0xFFFF then three n otherwise
    four n

unfoldable pub encode : List ℕ → List ℕ
encode [] = []
encode (n ∷ ns) = encode_one n ++ encode ns

pub data CodePoints : List ℕ → Type 0 where
  end : CodePoints []
  point : {n : ℕ} {ns : List ℕ} → CodePoint n → CodePoints ns → CodePoints (n ∷ ns)

-- bytes that are the encoding of code points
pub record Encoded (s : List ℕ) : Type 0 where
  pub points : List ℕ
  pub each : CodePoints points
  pub bytes : s ≡ encode points
