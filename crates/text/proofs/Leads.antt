-- The rows of the grammar that begin with a byte, by one test of all 256.
use Prim.Native.Nat.{ℕ, ◌≤◌, ◌<◌}
use mathlib.Core.Path.{◌≡◌, refl, ap₂}
use mathlib.Core.Bool.{Bool, true, false, ◌&&◌, false≢true}
use mathlib.Core.List.{List, [], ◌∷◌}
use native.Mathlib.Omega.{arith}
use Rattle.std.specs.Prelude.{Option, Some, None}
use lib.Dec.{T, eqb, ltb}
use borrow.Author.Tests.{eqb-true, ne_eqb, lt-ltb, le-ltb}
use Rattle.octets.specs.Bytes.{if◌then◌otherwise◌}
use Rattle.octets.proofs.Bool.{and_left, and_right}
use Rattle.octets.proofs.Test.{below}
use Rattle.text.specs.Grammar.{Range, ◌to◌, tail, forms, inside, after}
use Rattle.text.specs.Steps.{following, second_low, second_high, second, ahead}

-- the rows that begin with x, without that byte: the one with so many bytes more, or none
unfoldable pub begun : ℕ → Option ℕ → List (List Range)
begun x None = []
begun x (Some n) = ahead x n ∷ []

-- ---- equal rows

abbrev same_range : Range → Range → Bool
same_range (a to b) (c to d) = eqb a c && eqb b d

same_range_lem : (r q : Range) → same_range r q ≡ true → r ≡ q
same_range_lem (a to b) (c to d) e = ap₂ (λ l h. l to h) (eqb-true a c (and_left (eqb a c) (eqb b d) e)) (eqb-true b d (and_right (eqb a c) (eqb b d) e))

module _ {A : Type 0} (eq : A → A → Bool) (sound : (a b : A) → eq a b ≡ true → a ≡ b) where
  abbrev same_list : List A → List A → Bool
  same_list [] [] = true
  same_list [] (b ∷ t) = false
  same_list (a ∷ s) [] = false
  same_list (a ∷ s) (b ∷ t) = eq a b && same_list s t

  same_list_lem : (s t : List A) → same_list s t ≡ true → s ≡ t
  same_list_lem [] [] e = refl
  same_list_lem [] (b ∷ t) e = absurd (false≢true e)
  same_list_lem (a ∷ s) [] e = absurd (false≢true e)
  same_list_lem (a ∷ s) (b ∷ t) e = ap₂ (λ x l. x ∷ l) (sound a b (and_left (eq a b) (same_list s t) e)) (same_list_lem s t (and_right (eq a b) (same_list s t) e))

abbrev same_rows : List (List Range) → List (List Range) → Bool
same_rows = same_list (same_list same_range same_range_lem) (same_list_lem same_range same_range_lem)

T_true : (b : Bool) → T b → b ≡ true
T_true true t = refl
T_true false t = absurd t

pub leads : (x : ℕ) → x < 256 → after x forms ≡ begun x (following x)
unfolding forms inside after begun following ahead second second_low second_high
leads x h =
    same_list_lem (same_list same_range same_range_lem) (same_list_lem same_range same_range_lem) (after x forms) (begun x (following x))
    (T_true (same_rows (after x forms) (begun x (following x))) (below 256 (λ x. same_rows (after x forms) (begun x (following x))) tt x h))

-- ---- by the first byte

module _ (x : ℕ) where
  pub follows_one : x < 0x80 → Some 0 ≡ following x
  unfolding following
  follows_one h = rw (lt-ltb x 0x80 h)

  pub follows_none : 0x80 ≤ x → x < 0xC2 → None ≡ following x
  unfolding following
  follows_none l h = rw (le-ltb x 0x80 l, lt-ltb x 0xC2 h)

  pub follows_two : 0xC2 ≤ x → x < 0xE0 → Some 1 ≡ following x
  unfolding following
  follows_two l h = let a : 0x80 ≤ x = omega arith in rw (le-ltb x 0x80 a, le-ltb x 0xC2 l, lt-ltb x 0xE0 h)

  pub follows_three : 0xE0 ≤ x → x < 0xF0 → Some 2 ≡ following x
  unfolding following
  follows_three l h =
      let a : 0x80 ≤ x = omega arith in
      let b : 0xC2 ≤ x = omega arith in
      rw (le-ltb x 0x80 a, le-ltb x 0xC2 b, le-ltb x 0xE0 l, lt-ltb x 0xF0 h)

  pub follows_four : 0xF0 ≤ x → x < 0xF5 → Some 3 ≡ following x
  unfolding following
  follows_four l h =
      let a : 0x80 ≤ x = omega arith in
      let b : 0xC2 ≤ x = omega arith in
      let c : 0xE0 ≤ x = omega arith in
      rw (le-ltb x 0x80 a, le-ltb x 0xC2 b, le-ltb x 0xE0 c, le-ltb x 0xF0 l, lt-ltb x 0xF5 h)

  pub follows_above : 0xF5 ≤ x → None ≡ following x
  unfolding following
  follows_above l =
      let a : 0x80 ≤ x = omega arith in
      let b : 0xC2 ≤ x = omega arith in
      let c : 0xE0 ≤ x = omega arith in
      let d : 0xF0 ≤ x = omega arith in
      rw (le-ltb x 0x80 a, le-ltb x 0xC2 b, le-ltb x 0xE0 c, le-ltb x 0xF0 d, le-ltb x 0xF5 l)

  pub follows_few : (n : ℕ) → 0x80 ≤ x → Some n ≡ following x → (1 ≤ n) × (n ≤ 3)
  unfolding following
  follows_few n l e = go (ltb x 0xC2) (ltb x 0xE0) (ltb x 0xF0) (ltb x 0xF5) (rw (le-ltb x 0x80 l) at e)
    where
      go : (a b c d : Bool) → Some n ≡ (if a then None otherwise if b then Some 1 otherwise if c then Some 2 otherwise if d then Some 3 otherwise None) → (1 ≤ n) × (n ≤ 3)
      go true b c d e = absurd (cc)
      go false true c d e = let q : n ≡ 1 = cc in (omega arith, omega arith)
      go false false true d e = let q : n ≡ 2 = cc in (omega arith, omega arith)
      go false false false true e = let q : n ≡ 3 = cc in (omega arith, omega arith)
      go false false false false e = absurd (cc)

  -- the range of the byte after x is that of a tail, but for four bytes
  pub second_tail : (x ≡ 0xE0 → ⊥) → (x ≡ 0xED → ⊥) → (x ≡ 0xF0 → ⊥) → (x ≡ 0xF4 → ⊥) → second x ≡ tail
  unfolding second second_low second_high
  second_tail a b c d = rw (ne_eqb x 0xE0 a, ne_eqb x 0xF0 c, ne_eqb x 0xED b, ne_eqb x 0xF4 d)
