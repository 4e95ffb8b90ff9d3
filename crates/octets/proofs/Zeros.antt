-- Lists of zeros, and the test that every byte is zero.
use mathlib.Core.Path.{◌≡◌, refl, sym, ap, ap₂, ◌∙◌}
use mathlib.Core.List.{List, [], ◌∷◌, ◌++◌}
use mathlib.Core.Bool.{Bool, true, ◌&&◌, and_assoc, and-true}
use Prim.Native.Nat.{ℕ, zero, suc, ◌+◌, ◌-◌, ◌≤◌, ◌<◌}
use native.Mathlib.Nat.{sub-zero}
use native.Mathlib.Omega.{arith}
use borrow.Author.Tests.{eqb-true}
use lib.Bits.{bit_or}
use lib.Dec.{eqb, lit<}
use lib.ListN.{length, get_or, take, drop, length-replicate, replicate-append-replicate, drop_of_length-le}
use Rattle.octets.specs.Bytes.{Bytes, none, more, zeros, part, put, all_zero}
use Rattle.octets.proofs.Bool.{and_left, and_right}
use Rattle.octets.proofs.Parts.{drop_next, length_span, put_span}
use Rattle.octets.proofs.Xor.{eqb_or}

pub length_zeros : (n : ℕ) → length (zeros n) ≡ n
unfolding zeros
length_zeros n = length-replicate n 0

pub zeros_bytes : (n : ℕ) → Bytes (zeros n)
unfolding zeros
zeros_bytes zero = none
zeros_bytes (suc n) = more (lit< tt) (zeros_bytes n)

pub zeros_append : (a b : ℕ) → zeros a ++ zeros b ≡ zeros (a + b)
unfolding zeros
zeros_append a b = replicate-append-replicate a b 0

pub get_or_zeros : (n i : ℕ) → get_or (zeros n) i 0 ≡ 0
unfolding zeros
get_or_zeros zero i = refl
get_or_zeros (suc n) zero = refl
get_or_zeros (suc n) (suc i) = get_or_zeros n i

pub drop_zeros : (k n : ℕ) → drop k (zeros n) ≡ zeros (n - k)
unfolding zeros
drop_zeros zero n = rw sub-zero
drop_zeros (suc k) zero = let q : 0 - suc k ≡ 0 = omega arith in rw q
drop_zeros (suc k) (suc n) = let q : suc n - suc k ≡ n - k = omega arith in rw q (drop_zeros k n)

pub take_zeros : (k n : ℕ) → k ≤ n → take k (zeros n) ≡ zeros k
unfolding zeros
take_zeros zero n h = refl
take_zeros (suc k) zero h = absurd (omega arith)
take_zeros (suc k) (suc n) h = ap (λ (l : List ℕ). 0 ∷ l) (take_zeros k n (omega arith))

pub part_zeros : (n a k : ℕ) → a + k ≤ n → part (zeros n) a k ≡ zeros k
part_zeros n a k h = rw (drop_zeros a n) (take_zeros k (n - a) (omega arith))

-- zeros by the length that is known of them
pub zeros_size : (s : List ℕ) (n : ℕ) → s ≡ zeros n → length s ≡ n
zeros_size s n e = ap length e ∙ length_zeros n

pub zeros_as : (s : List ℕ) (k n : ℕ) → s ≡ zeros k → length s ≡ n → s ≡ zeros n
zeros_as s k n e h = e ∙ ap zeros (sym (zeros_size s k e) ∙ h)

-- the test
pub all_zero_zeros : (n : ℕ) → all_zero (zeros n) ≡ true
unfolding zeros all_zero
all_zero_zeros zero = refl
all_zero_zeros (suc n) = all_zero_zeros n

pub all_zero_is : (s : List ℕ) → all_zero s ≡ true → s ≡ zeros (length s)
unfolding zeros all_zero
all_zero_is [] h = refl
all_zero_is (x ∷ s) h =
    ap₂ (λ (y : ℕ) (t : List ℕ). y ∷ t) (eqb-true x 0 (and_left (eqb x 0) (all_zero s) h)) (all_zero_is s (and_right (eqb x 0) (all_zero s) h))

pub all_zero_append : (s t : List ℕ) → all_zero (s ++ t) ≡ all_zero s && all_zero t
unfolding all_zero
all_zero_append [] t = refl
all_zero_append (x ∷ s) t = ap (λ (b : Bool). eqb x 0 && b) (all_zero_append s t) ∙ sym (and_assoc (eqb x 0) (all_zero s) (all_zero t))

pub all_zero_part : (s : List ℕ) (a n : ℕ) → a + n ≤ length s → all_zero s ≡ true → all_zero (part s a n) ≡ true
all_zero_part s a n h e =
    ap (λ (l : List ℕ). all_zero (part l a n)) (all_zero_is s e)
    ∙ ap all_zero (part_zeros (length s) a n h)
    ∙ all_zero_zeros n

-- a part `s[a..a + n]` that comes back as zeros
pub zero_span : (s ys : List ℕ) (a n : ℕ) → a + n ≤ length s → ys ≡ zeros (length (take ((a + n) - a) (drop a s)))
    → take a s ++ (ys ++ drop ((a + n) - a) (drop a s)) ≡ put s a (zeros n)
zero_span s ys a n h e = put_span s ys (zeros n) a n (e ∙ ap zeros (length_span s a n h)) (length_zeros n)

-- bytes gathered in x up to place i: one more, and all
pub all_zero_next : (s : List ℕ) (x i : ℕ) → i < length s → eqb x 0 && all_zero (drop i s) ≡ all_zero s → eqb (bit_or x (get_or s i 0)) 0 && all_zero (drop (i + 1) s) ≡ all_zero s
unfolding all_zero
all_zero_next s x i h v =
    rw (eqb_or x (get_or s i 0), and_assoc (eqb x 0) (eqb (get_or s i 0) 0) (all_zero (drop (i + 1) s)))
    (ap (λ (l : List ℕ). eqb x 0 && all_zero l) (sym (drop_next s i h)) ∙ v)

pub all_zero_end : (s : List ℕ) (x i : ℕ) → length s ≤ i → eqb x 0 && all_zero (drop i s) ≡ all_zero s → eqb x 0 ≡ all_zero s
unfolding all_zero
all_zero_end s x i h v = sym (and-true (eqb x 0)) ∙ (rw (drop_of_length-le s h) at v)
