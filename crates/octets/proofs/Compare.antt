-- The test that two lists are equal, and tests at each number below a bound.
use mathlib.Core.Path.{◌≡◌, refl, sym, ap, ap₂, ◌∙◌}
use mathlib.Core.List.{List, [], ◌∷◌}
use mathlib.Core.Bool.{Bool, true, false, ◌&&◌, and_assoc, and-true, false≢true}
use Prim.Native.Nat.{ℕ, zero, suc, ◌+◌, ◌<◌}
use native.Mathlib.Nat.{not-suc-le-zero}
use native.Mathlib.Decide.{dec_lt}
use native.Mathlib.Numerals.{add-one}
use native.Mathlib.Omega.{arith}
use borrow.Author.Tests.{eqb-true, eq-eqb}
use lib.Bits.{bit_or, bit_xor}
use lib.Dec.{eqb}
use lib.ListN.{length}
use Rattle.octets.specs.Bytes.{same, all_below}
use Rattle.octets.proofs.Bool.{and_left, and_right, and_both, and_false_right}
use Rattle.octets.proofs.Xor.{eqb_or, eqb_xor}

pub same_self : (s : List ℕ) → same s s ≡ true
unfolding same
same_self [] = refl
same_self (x ∷ s) = and_both (eqb x x) (same s s) (eq-eqb x x refl) (same_self s)

pub same_is : (s t : List ℕ) → same s t ≡ true → s ≡ t
unfolding same
same_is [] [] h = refl
same_is [] (y ∷ t) h = absurd (false≢true h)
same_is (x ∷ s) [] h = absurd (false≢true h)
same_is (x ∷ s) (y ∷ t) h =
    ap₂ (λ (z : ℕ) (u : List ℕ). z ∷ u) (eqb-true x y (and_left (eqb x y) (same s t) h)) (same_is s t (and_right (eqb x y) (same s t) h))

pub same_eq : (s t : List ℕ) → s ≡ t → same s t ≡ true
same_eq s t e = rw e (same_self t)

pub same_differ : (s t : List ℕ) → (s ≡ t → ⊥) → same s t ≡ false
same_differ s t d = go (same s t) refl
  where
    go : (b : Bool) → same s t ≡ b → same s t ≡ false
    go true e = absurd (d (same_is s t e))
    go false e = e

pub same_length : (s t : List ℕ) → (length s ≡ length t → ⊥) → false ≡ same s t
same_length s t h = sym (same_differ s t (λ e. h (ap length e)))

-- the differences gathered in x, and the bytes still to come: one more of each
pub same_next : (s t u v : List ℕ) (x y z : ℕ) (r : Bool) → s ≡ y ∷ u → t ≡ z ∷ v → eqb x 0 && same s t ≡ r → eqb (bit_or x (bit_xor y z)) 0 && same u v ≡ r
unfolding same
same_next s t u v x y z r e f h =
    rw (eqb_or x (bit_xor y z), eqb_xor y z, and_assoc (eqb x 0) (eqb y z) (same u v))
    (ap₂ (λ (a b : List ℕ). eqb x 0 && same a b) (sym e) (sym f) ∙ h)

pub same_end : (s t : List ℕ) (x : ℕ) (r : Bool) → length s ≡ 0 → length s ≡ length t → eqb x 0 && same s t ≡ r → eqb x 0 ≡ r
unfolding same
same_end [] [] x r h l v = sym (and-true (eqb x 0)) ∙ v
same_end [] (z ∷ t) x r h l v = absurd (omega arith)
same_end (y ∷ s) t x r h l v = absurd (omega arith)

-- tests at each number below a bound
module _ (p : ℕ → Bool) where
  pub all_below_none : all_below 0 p ≡ true
  unfolding all_below
  all_below_none = refl

  pub all_below_next : (i : ℕ) → all_below i p ≡ true → p i ≡ true → all_below (i + 1) p ≡ true
  unfolding all_below
  all_below_next i e f = rw (add-one, e, f)

  pub all_below_stop : (n i : ℕ) → i < n → p i ≡ false → all_below n p ≡ false
  unfolding all_below
  all_below_stop zero i h e = absurd (not-suc-le-zero h)
  all_below_stop (suc n) i h e =
      elim (dec_lt i n) [
        | yes l ↦ rw (all_below_stop n i l e)
        | no l ↦ let q : n ≡ i = omega arith in and_false_right (all_below n p) (p n) (ap p q ∙ e)
      ]

  pub all_below_true : (n : ℕ) → ((i : ℕ) → i < n → p i ≡ true) → all_below n p ≡ true
  unfolding all_below
  all_below_true zero h = refl
  all_below_true (suc n) h = and_both (all_below n p) (p n) (all_below_true n (λ i l. h i (omega arith))) (h n (omega arith))

  pub all_below_at : (n i : ℕ) → all_below n p ≡ true → i < n → p i ≡ true
  all_below_at n i e l = at (p i) refl
    where
      at : (b : Bool) → p i ≡ b → p i ≡ true
      at true q = q
      at false q = absurd (false≢true (sym (all_below_stop n i l q) ∙ e))
