-- Numbers and the bytes that spell them, high byte first.
use mathlib.Core.Path.{◌≡◌, refl, sym, ap, ap₂, ◌∙◌, subst}
use mathlib.Core.List.{List, [], ◌∷◌, ◌++◌}
use Prim.Native.Nat.{ℕ, zero, suc, ◌+◌, ◌-◌, ◌*◌, ◌/◌, ◌%◌, ◌^◌, ◌≤◌, ◌<◌}
use native.Mathlib.Nat.{mod-lt, mod-eq_of_lt, mod-one, pow-suc, pow-succ', pow-le-pow_right, mul_assoc, add-mul, add_assoc, div-one}
use native.Mathlib.Numerals.{add-one}
use native.Mathlib.Omega.{arith}
use lib.Arith.{mod-mul, digits_lt, digits_div, digits_mod}
use lib.Dec.{lit<}
use lib.ListN.{length, get_or, take, drop, length-append}
use Rattle.std.proofs.Common.{Fits, w8}
use Rattle.std.proofs.lemmas.List.{take_all}
use lib.Seq.{take-suc}
use lib.Pow.{pow-add}
use Rattle.octets.specs.Bytes.{Bytes, none, more, be, number, part, zeros}
use Rattle.octets.proofs.EveryByte.{part_bytes}
use Rattle.octets.proofs.Parts.{length_part, get_or_part, part_add, part_span, length_span, tab_part}
use Rattle.octets.proofs.Zeros.{length_zeros, zeros_bytes}

pub pow256_pos : (k : ℕ) → 0 < 256 ^ k
pow256_pos zero = omega arith
pow256_pos (suc k) = omega (arith, pow-suc 256 k, pow256_pos k)

pub length_be : (k x : ℕ) → length (be k x) ≡ k
unfolding be
length_be zero x = refl
length_be (suc k) x = ap suc (length_be k x)

pub be_bytes : (k x : ℕ) → Bytes (be k x)
unfolding be
be_bytes zero x = none
be_bytes (suc k) x = more (mod-lt (x / 256 ^ k) (lit< tt)) (be_bytes k x)

-- the number that the low k bytes of x spell
pub number_be_mod : (k x : ℕ) → number (be k x) ≡ x % 256 ^ k
unfolding be number
number_be_mod zero x = sym (mod-one x)
number_be_mod (suc k) x =
    ap₂ (λ (l r : ℕ). x / 256 ^ k % 256 * 256 ^ l + r) (length_be k x) (number_be_mod k x)
    ∙ sym (ap (λ (m : ℕ). x % m) (pow-succ' 256 k) ∙ mod-mul x (lit< tt) (pow256_pos k))

pub number_be : (k x : ℕ) → x < 256 ^ k → number (be k x) ≡ x
number_be k x h = number_be_mod k x ∙ mod-eq_of_lt h

pub be_inj : (k x y : ℕ) → x < 256 ^ k → y < 256 ^ k → be k x ≡ be k y → x ≡ y
be_inj k x y h g e = sym (number_be k x h) ∙ ap number e ∙ number_be k y g

pub number_append : (s t : List ℕ) → number (s ++ t) ≡ number s * 256 ^ length t + number t
unfolding number
number_append [] t = omega arith
number_append (x ∷ s) t =
    let q : x * 256 ^ length (s ++ t) ≡ x * 256 ^ length s * 256 ^ length t = ap (λ (n : ℕ). x * 256 ^ n) (length-append s t) ∙ ap (λ (n : ℕ). x * n) (pow-add 256 (length s) (length t)) ∙ sym (mul_assoc x (256 ^ length s) (256 ^ length t)) in
    ap₂ (λ (u v : ℕ). u + v) q (number_append s t)
    ∙ sym (add_assoc (x * 256 ^ length s * 256 ^ length t) (number s * 256 ^ length t) (number t))
    ∙ ap (λ (n : ℕ). n + number t) (sym (add-mul (x * 256 ^ length s) (number s) (256 ^ length t)))

pub number_lt : {s : List ℕ} → Bytes s → number s < 256 ^ length s
unfolding number
number_lt none = lit< tt
number_lt (more {x} {s} h b) = subst (λ (m : ℕ). x * 256 ^ length s + number s < m) (sym (pow-succ' 256 (length s))) (digits_lt h (number_lt b))

-- bytes that spell the same number are the same
pub number_inj : {s t : List ℕ} → Bytes s → Bytes t → length s ≡ length t → number s ≡ number t → s ≡ t
unfolding number
number_inj none none l e = refl
number_inj none (more g c) l e = absurd (omega arith)
number_inj (more h b) none l e = absurd (omega arith)
number_inj (more {x} {s} h b) (more {x = y} {s = t} g c) l e =
    let k : length s ≡ length t = omega arith in
    let r : number s < 256 ^ length t = subst (λ (n : ℕ). number s < 256 ^ n) k (number_lt b) in
    let q : x * 256 ^ length t + number s ≡ y * 256 ^ length t + number t = ap (λ (n : ℕ). x * 256 ^ n + number s) (sym k) ∙ e in
    ap₂ (λ (z : ℕ) (u : List ℕ). z ∷ u)
    (sym (digits_div x r) ∙ ap (λ (n : ℕ). n / 256 ^ length t) q ∙ digits_div y (number_lt c))
    (number_inj b c k (sym (digits_mod x r) ∙ ap (λ (n : ℕ). n % 256 ^ length t) q ∙ digits_mod y (number_lt c)))

pub be_number : {s : List ℕ} → Bytes s → be (length s) (number s) ≡ s
be_number {s} b =
    number_inj (be_bytes (length s) (number s)) b (length_be (length s) (number s)) (number_be (length s) (number s) (number_lt b))

-- only the low k bytes count
pub be_mod : (k x : ℕ) → be k (x % 256 ^ k) ≡ be k x
be_mod k x =
    number_inj (be_bytes k (x % 256 ^ k)) (be_bytes k x) (length_be k (x % 256 ^ k) ∙ sym (length_be k x))
    (number_be k (x % 256 ^ k) (mod-lt x (pow256_pos k)) ∙ sym (number_be_mod k x))

pub number_zeros : (n : ℕ) → number (zeros n) ≡ 0
unfolding number zeros
number_zeros zero = refl
number_zeros (suc n) = omega (arith, number_zeros n)

pub be_zero : (k : ℕ) → be k 0 ≡ zeros k
be_zero k = number_inj (be_bytes k 0) (zeros_bytes k) (length_be k 0 ∙ sym (length_zeros k)) (number_be k 0 (pow256_pos k) ∙ sym (number_zeros k))

-- the number in a part
pub number_part_lt : (s : List ℕ) (a n : ℕ) → a + n ≤ length s → Bytes s → number (part s a n) < 256 ^ n
number_part_lt s a n h b = subst (λ (m : ℕ). number (part s a n) < 256 ^ m) (length_part s a n h) (number_lt (part_bytes a n b))

pub number_two : (s : List ℕ) (a : ℕ) → a + 2 ≤ length s → number (part s a 2) ≡ get_or s a 0 * 256 + get_or s (a + 1) 0
unfolding number
number_two s a h = rw (← tab_part 2 a s h, add-one) (omega arith)

-- a part in two
pub number_parts : (s : List ℕ) (a m n : ℕ) → a + m + n ≤ length s → number (part s a (m + n)) ≡ number (part s a m) * 256 ^ n + number (part s (a + m) n)
number_parts s a m n h =
    ap number (part_add s a m n)
    ∙ number_append (part s a m) (part s (a + m) n)
    ∙ ap (λ (k : ℕ). number (part s a m) * 256 ^ k + number (part s (a + m) n)) (length_part s (a + m) n h)

pub number_four : (s : List ℕ) (a : ℕ) → a + 4 ≤ length s
    → number (part s a 4) ≡ get_or s a 0 * 16777216 + get_or s (a + 1) 0 * 65536 + get_or s (a + 2) 0 * 256 + get_or s (a + 3) 0
number_four s a h =
    let q : get_or s (a + 2 + 1) 0 ≡ get_or s (a + 3) 0 = ap (λ (k : ℕ). get_or s k 0) {x = a + 2 + 1} {y = a + 3} (omega arith) in
    omega (arith, number_parts s a 2 2 (omega arith), number_two s a (omega arith), number_two s (a + 2) (omega arith))

-- the n bytes of s from place a, read one by one: x is the number that the first i of them spell
module _ (s : List ℕ) (a n : ℕ) (inside : a + n ≤ length s) (fits : (k : ℕ) → Fits w8 (get_or s k 0)) (i x : ℕ) where
  abbrev pub taken : List ℕ
  taken = take ((a + n) - a) (drop a s)

  module _ (more : i < length taken) where
    below : i < n
    below = rw (← length_span s a n inside) more

    byte_fits : get_or taken i 0 < 256
    byte_fits = rw (part_span s a n, get_or_part s a n i below) (omega (arith, fits (a + i)))

    -- one byte more
    pub number_next : x ≡ number (take i taken) → x * 256 + get_or taken i 0 ≡ number (take (i + 1) taken)
    unfolding number
    number_next e = rw (add-one, take-suc taken i 0 more, number_append (take i taken) (get_or taken i 0 ∷ []), ← e) (omega arith)

    pub number_below : x < 256 ^ i → x * 256 + get_or taken i 0 < 256 ^ (i + 1)
    number_below h = rw add-one (omega (arith, pow-suc 256 i, byte_fits))

    pub number_fits : n ≤ 8 → x < 256 ^ i → x * 256 + get_or taken i 0 < 2 ^ 64
    number_fits g h = omega (arith, number_below h, pow-le-pow_right {n = 256} (lit< tt) {i = i + 1} {j = 8} (omega (arith, below)))

  -- all of them
  pub number_all : i ≤ length taken → length taken ≤ i → x ≡ number (take i taken) → x ≡ number (part s a n)
  number_all h g e = e ∙ ap number (take_all i taken g ∙ part_span s a n)

  pub number_small : i ≤ length taken → length taken ≤ i → x < 256 ^ i → x < 256 ^ n
  number_small h g l = let q : i ≡ n = omega (arith, length_span s a n inside) in rw (← q) l

-- the low two and four bytes, written out
pub be_two : (x : ℕ) → x / 256 % 256 ∷ x % 256 ∷ [] ≡ be 2 x
unfolding be
be_two x = sym (rw div-one)

pub be_four : (x : ℕ) → x / 16777216 % 256 ∷ x / 65536 % 256 ∷ x / 256 % 256 ∷ x % 256 ∷ [] ≡ be 4 x
unfolding be
be_four x = sym (rw div-one)

-- byte i of the low n bytes of x, as a shift gives it
pub pow256 : (k : ℕ) → 256 ^ k ≡ 2 ^ (8 * k)
pow256 zero = refl
pow256 (suc k) =
    let q : 8 * suc k ≡ 8 * k + 8 = omega arith in
    rw (q, pow-add 2 (8 * k) 8, pow-suc 256 k, pow256 k)

pub be_at : (n x i : ℕ) → i < n → x / 2 ^ (8 * (n - 1 - i)) % 256 ≡ get_or (be n x) i 0
unfolding be
be_at zero x i h = absurd (omega arith)
be_at (suc n) x zero h = let q : suc n - 1 - 0 ≡ n = omega arith in rw (q, ← pow256 n)
be_at (suc n) x (suc i) h = let q : suc n - 1 - suc i ≡ n - 1 - i = omega arith in rw q (be_at n x i (omega arith))
