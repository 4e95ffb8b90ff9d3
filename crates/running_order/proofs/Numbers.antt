-- Laws of the order numbers that are gathered, one for each way out of a function that gathers them.
use Prim.Native.Nat.{ℕ, zero, suc, ◌+◌, ◌*◌, ◌≤◌, ◌<◌}
use mathlib.Core.Path.{◌≡◌, refl, sym, ap, ap₂, ◌∙◌}
use mathlib.Core.Bool.{Bool, true, false, not}
use mathlib.Core.List.{List, [], ◌∷◌, ◌++◌, append-nil}
use native.Mathlib.Numerals.{add-one}
use native.Mathlib.Omega.{arith}
use lib.ListN.{length, take, set, length-set, length-append}
use lib.Seq.{length-take-le, take-suc, take-set-le, get_or-set_same}
use Rattle.layout.specs.declared.Shape.{Shape}
use Rattle.layout.specs.Layout.{edition_of, blank_slot}
use Rattle.layout.specs.Shape.{SlotIn}
use Rattle.layout.proofs.Slots.{slots_are}
use Rattle.terms.specs.Terms.{opening, on_show}
use Rattle.running_order.specs.Order.{shown, order_number, shown_numbers}
use Rattle.running_order.specs.Inner.{Holds, with_slot, OpenDays}

-- ---- slot i of the sheets s and t

pub shown_blank : (s t : List ℕ) (day i : ℕ) (r : Bool) → r ≡ blank_slot (edition_of s) s i → r ≡ true → not r ≡ shown s t day i
unfolding shown
shown_blank s t day i r e f = rw (← e, f)

pub shown_written : (s t : List ℕ) (day i : ℕ) (h : Shape) → SlotIn s h i → (r : Bool) → r ≡ blank_slot (edition_of s) s i → r ≡ false
    → (q : Bool) → q ≡ on_show h.slots t i day → q ≡ shown s t day i
unfolding shown
shown_written s t day i h p r e f q g = rw (← e, f) (g ∙ ap (λ (n : ℕ). on_show n t i day) (slots_are s h i p))

pub number_made : (s t : List ℕ) (i y : ℕ) → y ≡ opening t i → y * 256 + i ≡ order_number s t i
unfolding order_number
number_made s t i y e = rw e

-- r is what was found of it, and the first n of l are kept so far
module _ (s t : List ℕ) (day i : ℕ) (r : Bool) (e : r ≡ shown s t day i) (l : List ℕ) (n : ℕ) (size : length l ≡ 256) (few : n < 256) where
  pub gather_none : r ≡ false → Holds l n (with_slot s t day i (take n l))
  unfolding with_slot
  gather_none f = rw (← e, f, append-nil) (record { first = refl; count = sym (length-take-le n l (omega arith)); size = size })

  pub gather_one : r ≡ true → (k : ℕ) → k ≡ order_number s t i → Holds (set l n k) (n + 1) (with_slot s t day i (take n l))
  unfolding with_slot
  gather_one f k g =
      let kept : take (n + 1) (set l n k) ≡ take n l ++ (k ∷ []) =
      ap (λ (m : ℕ). take m (set l n k)) (add-one n)
      ∙ take-suc (set l n k) n 0 (rw length-set (omega arith))
      ∙ ap₂ (λ (x : List ℕ) (y : ℕ). x ++ (y ∷ [])) (take-set-le n l n k (omega arith)) (get_or-set_same l n k 0 (omega arith)) in
      rw (← e, f, ← g)
      (record {
        first = kept;
        count = sym (length-append (take n l) (k ∷ []) ∙ ap (λ (m : ℕ). m + 1) (length-take-le n l (omega arith)));
        size = rw length-set size;
      })

-- ---- the slots one by one

pub opens_early : (t : List ℕ) (n i : ℕ) → OpenDays t n → i < n → opening t i ≤ 36524
opens_early t n i p h = p.opens i h

module _ (s t : List ℕ) (day : ℕ) where
  -- the two ways of a slot
  pub numbers_cases : (P : List ℕ → Type 0) (n : ℕ) → (shown s t day n ≡ true → P (shown_numbers s t day n ++ (order_number s t n ∷ [])))
      → (shown s t day n ≡ false → P (shown_numbers s t day n)) → P (shown_numbers s t day (suc n))
  unfolding shown_numbers
  numbers_cases P n f g = go (shown s t day n) refl
    where
      go : (b : Bool) → shown s t day n ≡ b → P (shown_numbers s t day (suc n))
      go true e = rw e (f e)
      go false e = rw (e, append-nil) (g e)

  pub numbers_few : (n : ℕ) → length (shown_numbers s t day n) ≤ n
  unfolding shown_numbers
  numbers_few zero = omega arith
  numbers_few (suc n) =
      numbers_cases (λ ks. length ks ≤ suc n) n
      (λ e. omega (arith, length-append (shown_numbers s t day n) (order_number s t n ∷ []), numbers_few n))
      (λ e. omega (arith, numbers_few n))

  pub gather_start : (l : List ℕ) → length l ≡ 256 → Holds l 0 (shown_numbers s t day 0)
  unfolding shown_numbers
  gather_start l h = record { first = refl; count = refl; size = h }

  module _ (l : List ℕ) (n i : ℕ) (p : Holds l n (shown_numbers s t day i)) where
    pub gather_few : (k : ℕ) → i < k → k ≤ 256 → n < 256
    gather_few k h g = omega (arith, p.count, numbers_few i)

    pub gather_next : (m : List ℕ) (r : ℕ) → Holds m r (with_slot s t day i (take n l)) → Holds m r (shown_numbers s t day (i + 1))
    unfolding shown_numbers with_slot
    gather_next m r q = rw (add-one i, ← p.first) q

    pub gather_end : (k : ℕ) → i ≤ k → k ≤ i → Holds l n (shown_numbers s t day k)
    gather_end k h g = let e : k ≡ i = omega arith in rw e p
