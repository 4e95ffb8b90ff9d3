-- Bytes as lists: numbers with the high byte first, parts of a list, zeros, and tests on whole lists.
use Rattle.std.specs.Prelude.{ℕ, zero, suc, ◌+◌, ◌*◌, ◌/◌, ◌%◌, ◌^◌, ◌<◌, Bool, true, false, ◌&&◌, List, [], ◌∷◌, ◌++◌, eqb, length, take, drop, replicate}

-- the first where the test holds, else the second
infixr 5 if◌then◌otherwise◌
abbrev pub if◌then◌otherwise◌ {ℓ} : {A : Type ℓ} → Bool → A → A → A
if◌then◌otherwise◌ true a b = a
if◌then◌otherwise◌ false a b = b

-- every element is a byte
pub data Bytes : List ℕ → Type 0 where
  none : Bytes []
  more : {x : ℕ} {s : List ℕ} → x < 256 → Bytes s → Bytes (x ∷ s)

-- the low k bytes of x, high byte first
unfoldable pub be : ℕ → ℕ → List ℕ
be zero x = []
be (suc k) x = x / 256 ^ k % 256 ∷ be k x

-- the number that bytes spell, high byte first
unfoldable pub number : List ℕ → ℕ
number [] = 0
number (x ∷ s) = x * 256 ^ length s + number s

-- n zero bytes
unfoldable pub zeros : ℕ → List ℕ
zeros n = replicate n 0

-- the n bytes of s from place a
abbrev pub part : List ℕ → ℕ → ℕ → List ℕ
part s a n = take n (drop a s)

-- s with its bytes from place a replaced by xs
unfoldable pub put : List ℕ → ℕ → List ℕ → List ℕ
put s a xs = take a s ++ (xs ++ drop (a + length xs) s)

-- every byte is zero
unfoldable pub all_zero : List ℕ → Bool
all_zero [] = true
all_zero (x ∷ s) = eqb x 0 && all_zero s

-- two lists are equal
unfoldable pub same : List ℕ → List ℕ → Bool
same [] [] = true
same [] (y ∷ t) = false
same (x ∷ s) [] = false
same (x ∷ s) (y ∷ t) = eqb x y && same s t

-- the test p passes at each number below n
unfoldable pub all_below : ℕ → (ℕ → Bool) → Bool
all_below zero p = true
all_below (suc n) p = all_below n p && p n
