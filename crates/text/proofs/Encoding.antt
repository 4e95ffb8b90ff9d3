-- The grammar and the encoding are the same.
use Prim.Native.Nat.{ℕ, zero, suc, ◌+◌, ◌*◌, ◌-◌, ◌/◌, ◌%◌, ◌^◌, ◌≤◌, ◌<◌}
use mathlib.Core.Path.{◌≡◌, refl, sym, ap, ap₂, ◌∙◌, subst}
use mathlib.Core.Bool.{Bool, true, false, false≢true}
use mathlib.Core.List.{List, [], ◌∷◌, ◌++◌, append_assoc, Memᴰ}
use mathlib.Core.Logic.{◌↔◌, ◌⊎◌, inl, inr, ⊎_elim}
use native.Mathlib.Decide.{dec_lt, dec_le}
use native.Mathlib.Nat.{div-div-eq-div-mul}
use native.Mathlib.Omega.{arith}
use lib.Dec.{ltb, lit≤, lit<}
use lib.ListN.{length, get_or, drop}
use borrow.Author.Tests.{le-leb, lt-leb, lt-ltb, le-ltb}
use Rattle.octets.specs.Bytes.{if◌then◌otherwise◌}
use Rattle.text.specs.Grammar.{Range, ◌to◌, tail, forms, Fits, none, more, Utf8, empty, char}
use Rattle.text.specs.Encoding.{CodePoint, CodePoints, end, point, Encoded, encode_one, encode, one, two, three, four}

-- ---- the row of a number

module _ (n : ℕ) where
  encode_one_lem : n ≤ 0x7F → encode_one n ≡ one n
  unfolding encode_one
  encode_one_lem h = rw (le-leb n 0x7F h)

  encode_two : 0x7F < n → n ≤ 0x7FF → encode_one n ≡ two n
  unfolding encode_one
  encode_two l h = rw (lt-leb n 0x7F l, le-leb n 0x7FF h)

  encode_three : 0x7FF < n → n ≤ 0xFFFF → encode_one n ≡ three n
  unfolding encode_one
  encode_three l h = let k : 0x7F < n = omega arith in rw (lt-leb n 0x7F k, lt-leb n 0x7FF l, le-leb n 0xFFFF h)

  encode_four : 0xFFFF < n → encode_one n ≡ four n
  unfolding encode_one
  encode_four l =
      let j : 0x7F < n = omega arith in
      let k : 0x7FF < n = omega arith in
      rw (lt-leb n 0x7F j, lt-leb n 0x7FF k, lt-leb n 0xFFFF l)

  -- by the four rows
  by_rows : (P : List ℕ → Type 0)
      → (n ≤ 0x7F → P (one n)) → (0x7F < n → n ≤ 0x7FF → P (two n)) → (0x7FF < n → n ≤ 0xFFFF → P (three n)) → (0xFFFF < n → P (four n))
      → P (encode_one n)
  by_rows P a b c d = go (dec_le n 0x7F) (dec_le n 0x7FF) (dec_le n 0xFFFF)
    where
      go : Dec (n ≤ 0x7F) → Dec (n ≤ 0x7FF) → Dec (n ≤ 0xFFFF) → P (encode_one n)
      go (yes h) g k = rw (encode_one_lem h) (a h)
      go (no h) (yes g) k = rw (encode_two (omega arith) g) (b (omega arith) g)
      go (no h) (no g) (yes k) = rw (encode_three (omega arith) k) (c (omega arith) k)
      go (no h) (no g) (no k) = rw (encode_four (omega arith)) (d (omega arith))

-- ---- a code point is encoded as a character of the grammar

pub data Char (c : List ℕ) : Type 0 where
  char_of : (form : List Range) → Memᴰ form forms → Fits form c → Char c

byte : {low high : ℕ} {ranges : List Range} {s : List ℕ} (x : ℕ) → low ≤ x → x ≤ high → Fits ranges s → Fits (low to high ∷ ranges) (x ∷ s)
byte x l h f = more l h f

row_of : (rows : List (List Range)) (k : ℕ) → k < length rows → Memᴰ (get_or rows k []) rows
row_of [] k h = absurd (omega arith)
row_of (row ∷ rows) zero h = Memᴰ.head refl
row_of (row ∷ rows) (suc k) h = Memᴰ.tail (row_of rows k (omega arith))

-- bytes that fit row k of the table
by_row : {c : List ℕ} (k : ℕ) → k < length forms → Fits (get_or forms k []) c → Char c
by_row k h f = char_of (get_or forms k []) (row_of forms k h) f

module _ (n : ℕ) where
  last : Fits (tail ∷ []) ((0x80 + n % 2 ^ 6) ∷ [])
  last = byte (0x80 + n % 2 ^ 6) (omega arith) (omega arith) none

  last_two : Fits (tail ∷ tail ∷ []) ((0x80 + n / 2 ^ 6 % 2 ^ 6) ∷ (0x80 + n % 2 ^ 6) ∷ [])
  last_two = byte (0x80 + n / 2 ^ 6 % 2 ^ 6) (omega arith) (omega arith) last

  char_one : n ≤ 0x7F → Char (one n)
  unfolding forms
  char_one h = by_row 0 (lit< tt) (byte n (omega arith) h none)

  char_two : 0x7F < n → n ≤ 0x7FF → Char (two n)
  unfolding forms
  char_two l h = by_row 1 (lit< tt) (byte (0xC0 + n / 2 ^ 6) (omega arith) (omega arith) last)

  -- three and four bytes, by the ranges of the first and the second
  fits_three : {a b l h : ℕ} → a ≤ 0xE0 + n / 2 ^ 12 → 0xE0 + n / 2 ^ 12 ≤ b → l ≤ 0x80 + n / 2 ^ 6 % 2 ^ 6 → 0x80 + n / 2 ^ 6 % 2 ^ 6 ≤ h
      → Fits (a to b ∷ l to h ∷ tail ∷ []) (three n)
  fits_three p q r s = more p q (more r s last)

  fits_four : {a b l h : ℕ} → a ≤ 0xF0 + n / 2 ^ 18 → 0xF0 + n / 2 ^ 18 ≤ b → l ≤ 0x80 + n / 2 ^ 12 % 2 ^ 6 → 0x80 + n / 2 ^ 12 % 2 ^ 6 ≤ h
      → Fits (a to b ∷ l to h ∷ tail ∷ tail ∷ []) (four n)
  fits_four p q r s = more p q (more r s last_two)

  char_three : CodePoint n → 0x7FF < n → n ≤ 0xFFFF → Char (three n)
  unfolding forms
  char_three p l h = go (dec_lt n 0x1000) (dec_lt n 0xD000) (dec_lt n 0xD800) (dec_lt 0xDFFF n)
    where
      go : Dec (n < 0x1000) → Dec (n < 0xD000) → Dec (n < 0xD800) → Dec (0xDFFF < n) → Char (three n)
      go (yes a) b c d = by_row 2 (lit< tt) (fits_three (omega arith) (omega arith) (omega arith) (omega arith))
      go (no a) (yes b) c d = by_row 3 (lit< tt) (fits_three (omega arith) (omega arith) (omega arith) (omega arith))
      go (no a) (no b) (yes c) d = by_row 4 (lit< tt) (fits_three (omega arith) (omega arith) (omega arith) (omega arith))
      go (no a) (no b) (no c) (yes d) = by_row 5 (lit< tt) (fits_three (omega arith) (omega arith) (omega arith) (omega arith))
      go (no a) (no b) (no c) (no d) = absurd (p.no_surrogate (omega arith) (omega arith))

  char_four : CodePoint n → 0xFFFF < n → Char (four n)
  unfolding forms
  char_four p l = go (dec_lt n 0x40000) (dec_lt n 0x100000) p.in_range
    where
      go : Dec (n < 0x40000) → Dec (n < 0x100000) → n < 0x110000 → Char (four n)
      go (yes a) b r = by_row 6 (lit< tt) (fits_four (omega arith) (omega arith) (omega arith) (omega arith))
      go (no a) (yes b) r = by_row 7 (lit< tt) (fits_four (omega arith) (omega arith) (omega arith) (omega arith))
      go (no a) (no b) r = by_row 8 (lit< tt) (fits_four (omega arith) (omega arith) (omega arith) (omega arith))

  point_char : CodePoint n → Char (encode_one n)
  point_char p = by_rows n Char char_one char_two (char_three p) (char_four p)

char_utf8 : {c s : List ℕ} → Char c → Utf8 s → Utf8 (c ++ s)
char_utf8 (char_of form m f) o = char m f o

points_utf8 : {ns : List ℕ} → CodePoints ns → Utf8 (encode ns)
unfolding encode
points_utf8 end = empty
points_utf8 (point {n = n} p ps) = char_utf8 (point_char n p) (points_utf8 ps)

-- ---- a character of the grammar is the encoding of a code point

pub data Point (c : List ℕ) : Type 0 where
  point_of_lem : (n : ℕ) → CodePoint n → c ≡ encode_one n → Point c

point_as : (n : ℕ) {c : List ℕ} → n < 0x110000 → (0xD800 ≤ n → n ≤ 0xDFFF → ⊥) → c ≡ encode_one n → Point c
point_as n r s e = point_of_lem n (record { in_range = r; no_surrogate = s }) e

-- the numbers that two, three and four bytes spell: the marks of the bytes come to what is taken away
abbrev spell2 : ℕ → ℕ → ℕ
spell2 a b = a * 64 + b - 0x3080

abbrev spell3 : ℕ → ℕ → ℕ → ℕ
spell3 a b c = a * 4096 + b * 64 + c - 0xE2080

abbrev spell4 : ℕ → ℕ → ℕ → ℕ → ℕ
spell4 a b c d = a * 262144 + b * 4096 + c * 64 + d - 0x3C82080

cons : {x y : ℕ} {s t : List ℕ} → x ≡ y → s ≡ t → (x ∷ s) ≡ (y ∷ t)
cons p q = ap₂ (λ x s. x ∷ s) p q

-- what is said of each row of a table, at one of them
data Rows (P : List Range → Type 0) : List (List Range) → Type 0 where
  no_row : Rows P []
  row : {r : List Range} {rows : List (List Range)} → P r → Rows P rows → Rows P (r ∷ rows)

at_row : {P : List Range → Type 0} {r : List Range} {rows : List (List Range)} → Rows P rows → Memᴰ r rows → P r
at_row {P} (row p ps) (Memᴰ.head e) = subst P (sym e) p
at_row (row p ps) (Memᴰ.tail m) = at_row ps m
at_row {P = P} {r = r} no_row x3 = elim x3 [ ]

abbrev Spelled : List Range → Type 0
Spelled form = (c : List ℕ) → Fits form c → Point c

spelled1 : Spelled (0x00 to 0x7F ∷ [])
spelled1 c (more {x = a} l h none) = point_as a (omega arith) (λ p q. omega arith) (sym (encode_one_lem a (omega arith)))

spelled2 : Spelled (0xC2 to 0xDF ∷ tail ∷ [])
spelled2 c (more {x = a} l h (more {x = b} l' h' none)) =
    point_as (spell2 a b) (omega arith) (λ p q. omega arith)
    (cons (omega arith) (cons (omega arith) refl) ∙ sym (encode_two (spell2 a b) (omega arith) (omega arith)))

-- of three bytes, the first from f to g and the second from l to h: the least number that they spell is above 0x7FF, and no surrogate lies between it and the greatest
spelled3 : (f g l h : ℕ) → 0xE0 ≤ f → g ≤ 0xEF → 0x80 ≤ l → h ≤ 0xBF → 0xE2080 + 0x7FF < f * 4096 + l * 64 + 0x80 → (g * 4096 + h * 64 + 0xBF < 0xE2080 + 0xD800) ⊎ (0xE2080 + 0xDFFF < f * 4096 + l * 64 + 0x80)
    → Spelled (f to g ∷ l to h ∷ tail ∷ [])
spelled3 f g l h f₀ g₁ l₀ h₁ long apart s (more {x = a} a₀ a₁ (more {x = b} b₀ b₁ (more {x = c} c₀ c₁ none))) =
    point_as (spell3 a b c) (omega arith) (λ p q. ⊎_elim (λ (z : g * 4096 + h * 64 + 0xBF < 0xE2080 + 0xD800). omega arith) (λ (z : 0xE2080 + 0xDFFF < f * 4096 + l * 64 + 0x80). omega arith) apart)
    (cons (omega arith) (cons (omega arith) (cons (omega arith) refl)) ∙ sym (encode_three (spell3 a b c) (omega arith) (omega arith)))

-- of four: the least number is above 0xFFFF, and the greatest is a code point's
spelled4 : (f g l h : ℕ) → 0xF0 ≤ f → 0x80 ≤ l → h ≤ 0xBF → 0x3C82080 + 0xFFFF < f * 262144 + l * 4096 + 0x80 * 64 + 0x80 → g * 262144 + h * 4096 + 0xBF * 64 + 0xBF < 0x3C82080 + 0x110000
    → Spelled (f to g ∷ l to h ∷ tail ∷ tail ∷ [])
spelled4 f g l h f₀ l₀ h₁ long short s (more {x = a} a₀ a₁ (more {x = b} b₀ b₁ (more {x = c} c₀ c₁ (more {x = d} d₀ d₁ none)))) =
    point_as (spell4 a b c d) (omega arith) (λ p q. omega arith)
    (cons (omega arith) (cons (omega arith) (cons (omega arith) (cons (omega arith) refl))) ∙ sym (encode_four (spell4 a b c d) (omega arith)))

all_spelled : Rows Spelled forms
unfolding forms
all_spelled =
    row spelled1
    (row spelled2
    (row (spelled3 _ _ _ _ (lit≤ tt) (lit≤ tt) (lit≤ tt) (lit≤ tt) (lit< tt) (inl (lit< tt)))
    (row (spelled3 _ _ _ _ (lit≤ tt) (lit≤ tt) (lit≤ tt) (lit≤ tt) (lit< tt) (inl (lit< tt)))
    (row (spelled3 _ _ _ _ (lit≤ tt) (lit≤ tt) (lit≤ tt) (lit≤ tt) (lit< tt) (inl (lit< tt)))
    (row (spelled3 _ _ _ _ (lit≤ tt) (lit≤ tt) (lit≤ tt) (lit≤ tt) (lit< tt) (inr (lit< tt)))
    (row (spelled4 _ _ _ _ (lit≤ tt) (lit≤ tt) (lit≤ tt) (lit< tt) (lit< tt))
    (row (spelled4 _ _ _ _ (lit≤ tt) (lit≤ tt) (lit≤ tt) (lit< tt) (lit< tt))
    (row (spelled4 _ _ _ _ (lit≤ tt) (lit≤ tt) (lit≤ tt) (lit< tt) (lit< tt))
    no_row))))))))

joined : {c s : List ℕ} → Point c → Encoded s → Encoded (c ++ s)
unfolding encode
joined (point_of_lem n p e) r = record { points = n ∷ r.points; each = point p r.each; bytes = ap₂ (λ c s. c ++ s) e r.bytes }

utf8_encoded : {s : List ℕ} → Utf8 s → Encoded s
unfolding encode
utf8_encoded empty = record { points = []; each = end; bytes = refl }
utf8_encoded (char {c = c} m f o) = joined (at_row all_spelled m c f) (utf8_encoded o)

pub exactly : (s : List ℕ) → Utf8 s ↔ Encoded s
exactly s = (utf8_encoded, λ r. subst Utf8 (sym r.bytes) (points_utf8 r.each))

-- ---- the only code points

-- the first code point of encoded bytes, and the bytes after it
abbrev first : List ℕ → ℕ
first s =
    if ltb (get_or s 0 0) 0x80 then get_or s 0 0 otherwise
    if ltb (get_or s 0 0) 0xE0 then spell2 (get_or s 0 0) (get_or s 1 0) otherwise
    if ltb (get_or s 0 0) 0xF0 then spell3 (get_or s 0 0) (get_or s 1 0) (get_or s 2 0) otherwise
    spell4 (get_or s 0 0) (get_or s 1 0) (get_or s 2 0) (get_or s 3 0)

abbrev later : List ℕ → List ℕ
later s =
    if ltb (get_or s 0 0) 0x80 then drop 1 s otherwise
    if ltb (get_or s 0 0) 0xE0 then drop 2 s otherwise
    if ltb (get_or s 0 0) 0xF0 then drop 3 s otherwise
    drop 4 s

-- bytes that begin with n and go on with t
pub record Starts (n : ℕ) (t s : List ℕ) : Type 0 where
  pub number : first s ≡ n
  pub rest : later s ≡ t

starts : (n : ℕ) (t : List ℕ) → Starts n t (encode_one n ++ t)
starts n t = by_rows n (λ c. Starts n t (c ++ t)) one_byte two_bytes three_bytes four_bytes
  where
    one_byte : n ≤ 0x7F → Starts n t (one n ++ t)
    one_byte h = let p : ltb n 0x80 ≡ true = lt-ltb n 0x80 (omega arith) in record { number = rw p; rest = rw p }

    two_bytes : 0x7F < n → n ≤ 0x7FF → Starts n t (two n ++ t)
    two_bytes l h =
        let p : ltb (0xC0 + n / 2 ^ 6) 0x80 ≡ false = le-ltb (0xC0 + n / 2 ^ 6) 0x80 (omega arith) in
        let q : ltb (0xC0 + n / 2 ^ 6) 0xE0 ≡ true = lt-ltb (0xC0 + n / 2 ^ 6) 0xE0 (omega arith) in
        record { number = rw (p, q) (omega arith); rest = rw (p, q) }

    three_bytes : 0x7FF < n → n ≤ 0xFFFF → Starts n t (three n ++ t)
    three_bytes l h =
        let p : ltb (0xE0 + n / 2 ^ 12) 0x80 ≡ false = le-ltb (0xE0 + n / 2 ^ 12) 0x80 (omega arith) in
        let q : ltb (0xE0 + n / 2 ^ 12) 0xE0 ≡ false = le-ltb (0xE0 + n / 2 ^ 12) 0xE0 (omega arith) in
        let r : ltb (0xE0 + n / 2 ^ 12) 0xF0 ≡ true = lt-ltb (0xE0 + n / 2 ^ 12) 0xF0 (omega arith) in
        record { number = rw (p, q, r) (omega arith); rest = rw (p, q, r) }

    four_bytes : 0xFFFF < n → Starts n t (four n ++ t)
    four_bytes l =
        let p : ltb (0xF0 + n / 2 ^ 18) 0x80 ≡ false = le-ltb (0xF0 + n / 2 ^ 18) 0x80 (omega arith) in
        let q : ltb (0xF0 + n / 2 ^ 18) 0xE0 ≡ false = le-ltb (0xF0 + n / 2 ^ 18) 0xE0 (omega arith) in
        let r : ltb (0xF0 + n / 2 ^ 18) 0xF0 ≡ false = le-ltb (0xF0 + n / 2 ^ 18) 0xF0 (omega arith) in
        record { number = rw (p, q, r) (omega (arith, div-div-eq-div-mul n 64 64, div-div-eq-div-mul n 4096 64)); rest = rw (p, q, r) }

abbrev none_left : List ℕ → Bool
none_left [] = true
none_left (x ∷ s) = false

filled : (n : ℕ) (t : List ℕ) → none_left (encode_one n ++ t) ≡ false
filled n t = by_rows n (λ c. none_left (c ++ t) ≡ false) (λ h. refl) (λ l h. refl) (λ l h. refl) (λ l. refl)

pub only : (ns ms : List ℕ) → encode ns ≡ encode ms → ns ≡ ms
unfolding encode
only [] [] e = refl
only [] (m ∷ ms) e = absurd (false≢true (sym (filled m (encode ms)) ∙ ap none_left (sym e)))
only (n ∷ ns) [] e = absurd (false≢true (sym (filled n (encode ns)) ∙ ap none_left e))
only (n ∷ ns) (m ∷ ms) e =
    let a = starts n (encode ns) in
    let b = starts m (encode ms) in
    cons (sym a.number ∙ ap first e ∙ b.number) (only ns ms (sym a.rest ∙ ap later e ∙ b.rest))

-- ---- bits

pub bits_1 : (n : ℕ) → n ≤ 0x7F → encode (n ∷ []) ≡ n ∷ []
unfolding encode
bits_1 n h = ap (λ (c : List ℕ). c ++ []) (encode_one_lem n h)

pub bits_2 : (a b : ℕ) → a < 2 ^ 5 → b < 2 ^ 6 → 0x80 ≤ a * 2 ^ 6 + b → encode ((a * 2 ^ 6 + b) ∷ []) ≡ (0b11000000 + a) ∷ (0b10000000 + b) ∷ []
unfolding encode
bits_2 a b p q l = ap (λ (c : List ℕ). c ++ []) (encode_two (a * 2 ^ 6 + b) (omega arith) (omega arith)) ∙ cons (omega arith) (cons (omega arith) refl)

pub bits_3 : (a b c : ℕ) → a < 2 ^ 4 → b < 2 ^ 6 → c < 2 ^ 6 → 0x800 ≤ a * 2 ^ 12 + b * 2 ^ 6 + c
    → encode ((a * 2 ^ 12 + b * 2 ^ 6 + c) ∷ []) ≡ (0b11100000 + a) ∷ (0b10000000 + b) ∷ (0b10000000 + c) ∷ []
unfolding encode
bits_3 a b c p q r l =
    ap (λ (z : List ℕ). z ++ []) (encode_three (a * 2 ^ 12 + b * 2 ^ 6 + c) (omega arith) (omega arith)) ∙ cons (omega arith) (cons (omega arith) (cons (omega arith) refl))

pub bits_4 : (a b c d : ℕ) → a < 2 ^ 3 → b < 2 ^ 6 → c < 2 ^ 6 → d < 2 ^ 6 → 0x10000 ≤ a * 2 ^ 18 + b * 2 ^ 12 + c * 2 ^ 6 + d
    → encode ((a * 2 ^ 18 + b * 2 ^ 12 + c * 2 ^ 6 + d) ∷ []) ≡ (0b11110000 + a) ∷ (0b10000000 + b) ∷ (0b10000000 + c) ∷ (0b10000000 + d) ∷ []
unfolding encode
bits_4 a b c d p q r t l =
    ap (λ (z : List ℕ). z ++ []) (encode_four (a * 2 ^ 18 + b * 2 ^ 12 + c * 2 ^ 6 + d) (omega arith))
    ∙ cons (omega arith) (cons (omega arith) (cons (omega arith) (cons (omega arith) refl)))

pub in_a_row : (ns ms : List ℕ) → encode (ns ++ ms) ≡ encode ns ++ encode ms
unfolding encode
in_a_row [] ms = refl
in_a_row (n ∷ ns) ms = ap (λ (s : List ℕ). encode_one n ++ s) (in_a_row ns ms) ∙ sym (append_assoc (encode_one n) (encode ns) (encode ms))

-- ---- lists of code points

head_tail : {n : ℕ} {ns : List ℕ} → CodePoints (n ∷ ns) → CodePoint n × CodePoints ns
head_tail (point p ps) = (p, ps)

pub points : (n : ℕ) (ns : List ℕ) → CodePoints (n ∷ ns) ↔ (CodePoint n × CodePoints ns)
points n ns = (head_tail, λ h. point h.0 h.1)
