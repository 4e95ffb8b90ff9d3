-- The ways out of the slot test's parts, and that they decide whether a slot is fit.
use mathlib.Core.Path.{◌≡◌, refl, sym, ap, ap₂, ◌∙◌}
use mathlib.Core.Bool.{Bool, true, false, ◌&&◌, ◌||◌, or-false, and_assoc}
use mathlib.Core.List.{List}
use Prim.Native.Nat.{ℕ, ◌+◌, ◌-◌, ◌*◌, ◌/◌, ◌%◌, ◌≤◌, ◌<◌}
use native.Mathlib.Omega.{arith}
use borrow.Author.Tests.{eq-eqb, ne_eqb, eqb-true, le-leb, lt-leb}
use lib.Dec.{eqb, leb}
use lib.ListN.{get_or, length, take, drop}
use Rattle.octets.specs.Bytes.{number, part, all_zero}
use Rattle.octets.proofs.Bool.{and_false_left, and_false_right}
use Rattle.octets.proofs.Numbers.{number_two, number_parts}
use Rattle.octets.proofs.Parts.{part_add, part_part, part_span}
use Rattle.octets.proofs.Zeros.{all_zero_append}
use Rattle.layout.specs.declared.Shape.{Shape}
use Rattle.layout.specs.Layout.{last_write, edition_of, mark_number, mark_length, written_mark, mark_at, field_at, mark, field, blank_slot, fit_slot}
use Rattle.layout.specs.Shape.{SlotIn}
use Rattle.layout.specs.Marks.{written_after, blank_after}
use Rattle.layout.proofs.Slots.{number_zero, mark_inside, slot_mark_lem, slot_field}

-- ---- a written slot

module _ (w x y : ℕ) where
  pub written_late : w < x → false ≡ written_after w x y
  unfolding written_after
  written_late h = rw (lt-leb x w h)

  pub written_long : x ≤ w → 192 * 65536 < y → false ≡ written_after w x y
  unfolding written_after
  written_long l h = rw (le-leb x w l) (sym (go (eqb (y % 65536) 0) refl))
    where
      go : (b : Bool) → eqb (y % 65536) 0 ≡ b → leb (y / 65536) 192 && eqb (y % 65536) 0 ≡ false
      go true e = and_false_left (leb (y / 65536) 192) (eqb (y % 65536) 0) (lt-leb (y / 65536) 192 (omega (arith, eqb-true (y % 65536) 0 e)))
      go false e = and_false_right (leb (y / 65536) 192) (eqb (y % 65536) 0) e

  pub written_zeros : x ≤ w → y ≤ 192 * 65536 → eqb (y % 65536) 0 ≡ written_after w x y
  unfolding written_after
  written_zeros l h = rw (le-leb x w l, le-leb (y / 65536) 192 (omega arith))

-- ---- a blank slot

module _ (s : List ℕ) (h : Shape) (i y : ℕ) where
  pub blank_numbers : (y ≡ 0 → ⊥) → false ≡ blank_after s h i y
  unfolding blank_after
  blank_numbers n = rw (ne_eqb y 0 n)

  -- r is what was found of the check's bytes
  module _ (z : y ≡ 0) (a : ℕ) (e : a ≡ mark_at h.header i) (r : Bool) (f : r ≡ all_zero (take ((a + 8 + 8) - (a + 8)) (drop (a + 8) s))) where
    check_is : r ≡ all_zero (part s (mark_at h.header i + 8) 8)
    check_is = f ∙ ap all_zero (part_span s (a + 8) 8 ∙ ap (λ (k : ℕ). part s (k + 8) 8) e)

    pub blank_check : r ≡ false → false ≡ blank_after s h i y
    unfolding blank_after
    blank_check t = rw (eq-eqb y 0 z, ← check_is, t)

    pub blank_rest : r ≡ true → (b : ℕ) → b ≡ field_at h.header h.slots i → (q : Bool) → q ≡ all_zero (take ((b + 192) - b) (drop b s)) → q ≡ blank_after s h i y
    unfolding blank_after
    blank_rest t b g q u = u ∙ rw (eq-eqb y 0 z, ← check_is, t, part_span s b 192, g)

-- ---- slot i of a sheet s of shape h: x and y were read of its mark

module _ (s : List ℕ) (h : Shape) (i : ℕ) (p : SlotIn s h i) (byte : (k : ℕ) → get_or s k 0 < 256)
    (a : ℕ) (e : a ≡ mark_at h.header i) (x : ℕ) (ex : x ≡ number (part s a 4)) (y : ℕ) (ey : y ≡ number (part s (a + 4) 4)) where
  inside : a + 16 ≤ length s
  inside = omega (arith, e, mark_inside s h i p)

  mark_is : mark (edition_of s) s i ≡ part s a 16
  mark_is = sym (slot_mark_lem s h i p a e) ∙ part_span s a 16

  zero_four : (b v : ℕ) → v ≡ number (part s b 4) → all_zero (part s b 4) ≡ eqb v 0
  zero_four b v f = sym (ap (λ (n : ℕ). eqb n 0) f ∙ number_zero (part s b 4))

  zero_mark : all_zero (mark (edition_of s) s i) ≡ eqb x 0 && (eqb y 0 && all_zero (part s (mark_at h.header i + 8) 8))
  zero_mark =
      ap all_zero (mark_is ∙ part_add s a 4 12)
      ∙ all_zero_append (part s a 4) (part s (a + 4) 12)
      ∙ ap₂ (λ (b c : Bool). b && c) (zero_four a x ex)
      (ap all_zero (part_add s (a + 4) 4 8)
      ∙ all_zero_append (part s (a + 4) 4) (part s (a + 4 + 4) 8)
      ∙ ap₂ (λ (b c : Bool). b && c) (zero_four (a + 4) y ey) (ap (λ (k : ℕ). all_zero (part s k 8)) {x = a + 4 + 4} {y = mark_at h.header i + 8} (omega (arith, e))))

  zero_field : all_zero (field (edition_of s) s i) ≡ all_zero (part s (field_at h.header h.slots i) 192)
  zero_field = ap all_zero (sym (slot_field s h i p (field_at h.header h.slots i) refl) ∙ part_span s (field_at h.header h.slots i) 192)

  blank_is : blank_slot (edition_of s) s i ≡ eqb x 0 && blank_after s h i y
  unfolding blank_slot blank_after
  blank_is = ap₂ (λ (b c : Bool). b && c) zero_mark zero_field ∙ and_assoc (eqb x 0) _ _ ∙ ap (λ (b : Bool). eqb x 0 && b) (and_assoc (eqb y 0) _ _)

  -- the numbers in the mark
  number_is : mark_number (mark (edition_of s) s i) ≡ x
  unfolding mark_number
  number_is = ap (λ (m : List ℕ). number (part m 0 4)) mark_is ∙ ap number (part_part s a 16 0 4 (omega arith) ∙ ap (λ (k : ℕ). part s k 4) {x = a + 0} {y = a} (omega arith)) ∙ sym ex

  two : (k : ℕ) → k + 2 ≤ 16 → number (part (mark (edition_of s) s i) k 2) ≡ number (part s (a + k) 2)
  two k l = ap (λ (m : List ℕ). number (part m k 2)) mark_is ∙ ap number (part_part s a 16 k 2 l)

  halves : y ≡ number (part s (a + 4) 2) * 65536 + number (part s (a + 6) 2)
  halves = ey ∙ number_parts s (a + 4) 2 2 (omega (arith, inside)) ∙ ap (λ (k : ℕ). number (part s (a + 4) 2) * 65536 + number (part s k 2)) {x = a + 4 + 2} {y = a + 6} (omega arith)

  low : number (part s (a + 6) 2) < 65536
  low = omega (arith, number_two s (a + 6) (omega (arith, inside)), byte (a + 6), byte (a + 6 + 1))

  length_is : number (part (mark (edition_of s) s i) 4 2) ≡ y / 65536
  length_is = two 4 (omega arith) ∙ omega (arith, halves, low)

  zeros_are : all_zero (part (mark (edition_of s) s i) 6 2) ≡ eqb (y % 65536) 0
  zeros_are = sym (number_zero (part (mark (edition_of s) s i) 6 2)) ∙ ap (λ (n : ℕ). eqb n 0) {y = y % 65536} (two 6 (omega arith) ∙ omega (arith, halves, low))

  pub slot_blank : x ≡ 0 → (r : Bool) → r ≡ blank_after s h i y → r ≡ fit_slot (edition_of s) s i
  unfolding fit_slot written_mark
  slot_blank z r u =
      u ∙ sym (ap₂ (λ (b c : Bool). b || c) (blank_is ∙ ap (λ (n : ℕ). eqb n 0 && blank_after s h i y) z) (rw (number_is, z)) ∙ or-false (blank_after s h i y))

  pub slot_written : (x ≡ 0 → ⊥) → (w : ℕ) → w ≡ last_write s → (r : Bool) → r ≡ written_after w x y → r ≡ fit_slot (edition_of s) s i
  unfolding written_after fit_slot written_mark mark_length
  slot_written n w g r u =
      let l : 1 ≤ x = omega (arith, n) in
      u ∙ sym (rw (blank_is, ne_eqb x 0 n, number_is, ← g, le-leb 1 x l, length_is, zeros_are))
