-- Laws of the first byte that isn't zero.
use Prim.Native.Nat.{ℕ, zero, suc, ◌+◌, ◌-◌, ◌≤◌, ◌<◌, min}
use mathlib.Core.Path.{◌≡◌, refl, sym, ap, ◌∙◌}
use mathlib.Core.Bool.{Bool, true, false, not, false≢true}
use mathlib.Core.List.{List, [], ◌∷◌}
use native.Mathlib.Omega.{arith}
use native.Mathlib.Decide.{dec_le}
use borrow.Author.Tests.{eq-eqb, ne_eqb}
use lib.Dec.{eqb}
use lib.ListN.{length, get_or, take, drop, length-drop, drop_of_length-le}
use lib.Seq.{take_all, take-nil}
use Rattle.std.specs.Prelude.{None, Some}
use Rattle.octets.specs.Bytes.{if◌then◌otherwise◌, part, all_zero}
use Rattle.octets.proofs.Bool.{and_false_left, not_both}
use Rattle.octets.proofs.Parts.{drop_next, length_part, get_or_part}
use Rattle.layout.specs.Layout.{edition_byte}
use Rattle.faults.specs.Faults.{zeros_before, first_set}
use Rattle.faults.specs.Inner.{zero_place}
use Rattle.layout.proofs.Header.{edition_read}

-- ---- zeros before the first other byte

other_set : (x : ℕ) (p : List ℕ) → all_zero (suc x ∷ p) ≡ false
unfolding all_zero
other_set x p = and_false_left (eqb (suc x) 0) (all_zero p) (ne_eqb (suc x) 0 (λ q. omega arith))

other_first : (x : ℕ) (p : List ℕ) → (x ≡ 0 → ⊥) → zeros_before (x ∷ p) ≡ 0
unfolding zeros_before
other_first zero p d = absurd (d refl)
other_first (suc x) p d = refl

zero_first : (x : ℕ) (p : List ℕ) → x ≡ 0 → zeros_before (x ∷ p) ≡ suc (zeros_before p)
unfolding zeros_before
zero_first x p e = rw e

pub before_zero : (p : List ℕ) (j : ℕ) → j < zeros_before p → get_or p j 0 ≡ 0
unfolding zeros_before
before_zero [] j h = absurd (omega arith)
before_zero (zero ∷ p) zero h = refl
before_zero (zero ∷ p) (suc j) h = before_zero p j (omega arith)
before_zero (suc x ∷ p) j h = absurd (omega arith)

pub before_all : (p : List ℕ) → all_zero p ≡ true → zeros_before p ≡ length p
unfolding zeros_before all_zero
before_all [] h = refl
before_all (zero ∷ p) h = ap suc (before_all p h)
before_all (suc x ∷ p) h = absurd (not_both (all_zero (suc x ∷ p)) h (other_set x p))

pub before_some : (p : List ℕ) → all_zero p ≡ false → (zeros_before p < length p) × (get_or p (zeros_before p) 0 ≡ 0 → ⊥)
unfolding zeros_before all_zero
before_some [] h = absurd (false≢true (sym h))
before_some (zero ∷ p) h = let r = before_some p h in (omega (arith, r.0), r.1)
before_some (suc x ∷ p) h = (omega arith, λ q. omega (arith, q))

pub before_length : (p : List ℕ) → zeros_before p ≤ length p
unfolding zeros_before
before_length [] = omega arith
before_length (zero ∷ p) = omega (arith, before_length p)
before_length (suc x ∷ p) = omega arith

zero_all : (p : List ℕ) (j : ℕ) → all_zero p ≡ true → get_or p j 0 ≡ 0
unfolding all_zero
zero_all [] j h = refl
zero_all (zero ∷ p) zero h = refl
zero_all (zero ∷ p) (suc j) h = zero_all p j h
zero_all (suc x ∷ p) j h = absurd (not_both (all_zero (suc x ∷ p)) h (other_set x p))

some_set : (p : List ℕ) (j : ℕ) → (get_or p j 0 ≡ 0 → ⊥) → all_zero p ≡ false
some_set p j n = go (all_zero p) refl
  where
    go : (b : Bool) → all_zero p ≡ b → b ≡ false
    go true e = absurd (n (zero_all p j e))
    go false e = refl

get_or_past : (p : List ℕ) (j : ℕ) → length p ≤ j → get_or p j 0 ≡ 0
get_or_past [] j h = refl
get_or_past (x ∷ p) zero h = absurd (omega arith)
get_or_past (x ∷ p) (suc j) h = get_or_past p j (omega arith)

take_few : (n : ℕ) (p : List ℕ) → length (take n p) ≤ n
take_few zero p = omega arith
take_few (suc n) [] = omega arith
take_few (suc n) (x ∷ p) = omega (arith, take_few n p)

-- ---- of n bytes from a

module _ (s : List ℕ) (a n : ℕ) where
  pub set_low : a ≤ first_set s a n
  unfolding first_set
  set_low = omega arith

  pub set_high : first_set s a n ≤ a + n
  unfolding first_set
  set_high = omega (arith, before_length (part s a n), take_few n (drop a s))

  pub set_before : (j : ℕ) → a ≤ j → j < first_set s a n → get_or s j 0 ≡ 0
  unfolding first_set
  set_before j l h =
      let q : a + (j - a) ≡ j = omega arith in
      sym (ap (λ (k : ℕ). get_or s k 0) q)
      ∙ sym (get_or_part s a n (j - a) (omega (arith, before_length (part s a n), take_few n (drop a s))))
      ∙ before_zero (part s a n) (j - a) (omega arith)

  -- a byte that isn't zero
  module _ (j : ℕ) (l : a ≤ j) (h : j < a + n) (d : get_or s j 0 ≡ 0 → ⊥) where
    in_part : get_or (part s a n) (j - a) 0 ≡ get_or s j 0
    in_part = let q : a + (j - a) ≡ j = omega arith in get_or_part s a n (j - a) (omega arith) ∙ ap (λ (k : ℕ). get_or s k 0) q

    pub set_some : all_zero (part s a n) ≡ false
    set_some = some_set (part s a n) (j - a) (λ e. d (sym in_part ∙ e))

    pub set_least : first_set s a n ≤ j
    set_least = go (dec_le (first_set s a n) j)
      where
        go : Dec (first_set s a n ≤ j) → first_set s a n ≤ j
        go (yes g) = g
        go (no g) = absurd (d (set_before j l (omega (arith, g))))

  -- not all are zero
  module _ (e : all_zero (part s a n) ≡ false) where
    pub set_below : first_set s a n < a + n
    unfolding first_set
    set_below = omega (arith, (before_some (part s a n) e).0, take_few n (drop a s))

    pub set_there : get_or s (first_set s a n) 0 ≡ 0 → ⊥
    unfolding first_set
    set_there q =
        (before_some (part s a n) e).1
        (get_or_part s a n (zeros_before (part s a n)) (omega (arith, (before_some (part s a n) e).0, take_few n (drop a s))) ∙ q)

    pub set_inside : first_set s a n < length s
    set_inside = go (dec_le (length s) (first_set s a n))
      where
        go : Dec (length s ≤ first_set s a n) → first_set s a n < length s
        go (yes g) = absurd (set_there (get_or_past s (first_set s a n) g))
        go (no g) = omega (arith, g)

-- ---- the search, that has come to place i

module _ (s : List ℕ) (i m : ℕ) where
  out : length s ≤ i → i ≡ first_set s i m
  unfolding first_set zeros_before
  out h = let q : part s i m ≡ [] = ap (take m) (drop_of_length-le s h) ∙ take-nil m in rw q (omega arith)

  end : m ≡ 0 → i ≡ first_set s i m
  unfolding first_set zeros_before
  end h = rw h (omega arith)

  module _ (h : i < length s) (l : 1 ≤ m) where
    part_next : part s i m ≡ get_or s i 0 ∷ part s (i + 1) (m - 1)
    part_next = let q : m ≡ suc (m - 1) = omega arith in ap (take m) (drop_next s i h) ∙ ap (λ (k : ℕ). take k (get_or s i 0 ∷ drop (i + 1) s)) q

    here : (get_or s i 0 ≡ 0 → ⊥) → i ≡ first_set s i m
    unfolding first_set zeros_before
    here d = rw (part_next, other_first (get_or s i 0) (part s (i + 1) (m - 1)) d) (omega arith)

    next : get_or s i 0 ≡ 0 → first_set s (i + 1) (m - 1) ≡ first_set s i m
    unfolding first_set zeros_before
    next d = rw (part_next, zero_first (get_or s i 0) (part s (i + 1) (m - 1)) d) (omega arith)

module _ (s : List ℕ) (a n i : ℕ) (v : first_set s i (a + n - i) ≡ first_set s a n) where
  pub search_out : length s ≤ i → i ≡ first_set s a n
  search_out h = out s i (a + n - i) h ∙ v

  pub search_end : a + n ≤ i → i ≡ first_set s a n
  search_end h = end s i (a + n - i) (omega arith) ∙ v

  module _ (h : i < length s) (l : i < a + n) where
    pub search_here : (get_or s i 0 ≡ 0 → ⊥) → i ≡ first_set s a n
    search_here d = here s i (a + n - i) h (omega arith) d ∙ v

    pub search_next : get_or s i 0 ≡ 0 → first_set s (i + 1) (a + n - (i + 1)) ≡ first_set s a n
    search_next d =
        ap (λ (m : ℕ). first_set s (i + 1) m) {x = a + n - (i + 1)} {y = (a + n - i) - 1} (omega arith)
        ∙ next s i (a + n - i) h (omega arith) d
        ∙ v

pub search_begun : (s : List ℕ) (a n : ℕ) → first_set s a (a + n - a) ≡ first_set s a n
search_begun s a n = ap (λ (m : ℕ). first_set s a m) {x = a + n - a} {y = n} (omega arith)

-- ---- the header's zero bytes: y is what was read of byte 3, z the first place that was found

all_sized : (s : List ℕ) → all_zero (part s 10 6) ≡ true → (first_set s 10 6 < length s) → first_set s 10 6 ≡ 16
unfolding first_set
all_sized s e h = go (dec_le 16 (length s))
  where
    short : ¬ (16 ≤ length s) → part s 10 6 ≡ drop 10 s
    short g = take_all 6 (drop 10 s) (omega (arith, g, length-drop 10 s))

    go : Dec (16 ≤ length s) → 10 + zeros_before (part s 10 6) ≡ 16
    go (yes g) = omega (arith, before_all (part s 10 6) e, length_part s 10 6 g)
    go (no g) = absurd (omega (arith, before_all (part s 10 6) e, ap length (short g), length-drop 10 s))

module _ (s : List ℕ) (l : 8 ≤ length s) (y : ℕ) (e : y ≡ get_or s 3 0) where
  pub place_one : (y ≡ 2 → ⊥) → None ≡ zero_place s
  unfolding zero_place
  place_one q = rw (← edition_read s y l e, ne_eqb y 2 q)

  module _ (q : y ≡ 2) (z : ℕ) (f : z ≡ first_set s 10 6) where
    is_two : eqb (edition_byte s) 2 ≡ true
    is_two = eq-eqb (edition_byte s) 2 (sym (edition_read s y l e) ∙ q)

    pub place_out : min (length s) 16 ≤ z → None ≡ zero_place s
    unfolding zero_place
    place_out h = rw is_two (go (all_zero (part s 10 6)) refl)
      where
        go : (b : Bool) → all_zero (part s 10 6) ≡ b → None ≡ (if not b then Some (first_set s 10 6) otherwise None)
        go true u = refl
        go false u = absurd (omega (arith, h, f, set_inside s 10 6 u, set_below s 10 6 u))

    pub place_in : z < min (length s) 16 → Some z ≡ zero_place s
    unfolding zero_place
    place_in h = rw is_two (go (all_zero (part s 10 6)) refl)
      where
        go : (b : Bool) → all_zero (part s 10 6) ≡ b → Some z ≡ (if not b then Some (first_set s 10 6) otherwise None)
        go true u = absurd (omega (arith, all_sized s u (omega (arith, f, h)), f, h))
        go false u = ap Some f
