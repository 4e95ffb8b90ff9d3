-- Laws of the slots' faults: which of its rules a slot breaks that is neither blank nor written, and that a fit slot breaks none.
use Prim.Native.Nat.{ℕ, suc, ◌+◌, ◌-◌, ◌≤◌, ◌<◌}
use mathlib.Core.Path.{◌≡◌, refl, sym, ap, ◌∙◌}
use mathlib.Core.Bool.{Bool, true, false, not, ◌&&◌, ◌||◌}
use mathlib.Core.List.{List}
use native.Mathlib.Omega.{arith}
use Rattle.std.specs.Prelude.{Option, None, Some}
use borrow.Author.Tests.{eqb-true, lt-ltb, le-ltb, le-leb, lt-leb, leb-true, ltb-false, not-true, not-false}
use lib.Dec.{leb, ltb}
use lib.ListN.{length, get_or}
use Rattle.octets.specs.Bytes.{number, part, all_zero}
use Rattle.octets.proofs.Bool.{and_left, and_right, not_both}
use Rattle.octets.proofs.Parts.{part_part, part_span, get_or_part, length_part}
use Rattle.octets.proofs.Zeros.{all_zero_part}
use Rattle.layout.specs.Layout.{Edition, edition_of, slots, last_write, mark_number, mark_length, written_mark, mark_at, mark, blank_slot, fit_slot}
use Rattle.layout.specs.Shape.{SlotIn, SheetOf}
use Rattle.layout.specs.declared.Shape.{Shape}
use Rattle.layout.proofs.Fits.{Written, mark_written, written_mark_lem}
use Rattle.layout.proofs.Slots.{number_zero, mark_inside, slot_mark_lem, slots_are, sheet_slots, slot_of}
use Rattle.faults.specs.Faults.{first_set, wrong_number, slot_faults, first_in}
use Rattle.faults.specs.Inner.{slots_fault}
use Rattle.octets.specs.Outcome.{decided}
use Rattle.faults.specs.declared.MarkRule.{MarkRule}
use Rattle.faults.specs.declared.MarkRule.TheVariants.{Number, Length, Zero}
use Rattle.faults.specs.declared.Fault.{Fault}
use Rattle.faults.specs.declared.Fault.TheVariants.{Mark}
use Rattle.faults.proofs.Places.{set_low, set_below, set_there, set_least}

-- ---- the rows of slot i

module _ (e : Edition) (s : List ℕ) (i : ℕ) where
  -- what its three tests find
  abbrev pub wrong_length : Bool
  wrong_length = ltb 192 (mark_length (mark e s i))

  abbrev pub wrong_zeros : Bool
  wrong_zeros = not (all_zero (part (mark e s i) 6 2))

  -- a slot that breaks none is fit, and a fit slot breaks none
  pub rows_fit : wrong_number e s i ≡ false → wrong_length ≡ false → wrong_zeros ≡ false → fit_slot e s i ≡ true
  unfolding wrong_number fit_slot
  rows_fit n l z = go (blank_slot e s i) n
    where
      go : (b : Bool) → not b && not (leb 1 (mark_number (mark e s i)) && leb (mark_number (mark e s i)) (last_write s)) ≡ false → b || written_mark (last_write s) (mark e s i) ≡ true
      go true h = refl
      go false h =
          let q = not-false (leb 1 (mark_number (mark e s i)) && leb (mark_number (mark e s i)) (last_write s)) h in
          written_mark_lem (last_write s) (mark e s i)
          (record {
            positive = leb-true 1 (mark_number (mark e s i)) (and_left (leb 1 (mark_number (mark e s i))) _ q);
            at_most = leb-true (mark_number (mark e s i)) (last_write s) (and_right (leb 1 (mark_number (mark e s i))) _ q);
            short = ltb-false 192 (mark_length (mark e s i)) l;
            pad = not-false (all_zero (part (mark e s i) 6 2)) z;
          })

  module _ (l : length (mark e s i) ≡ 16) (f : fit_slot e s i ≡ true) where
    -- of a blank slot, and of a written one
    blank_length : blank_slot e s i ≡ true → mark_length (mark e s i) ≡ 0
    unfolding blank_slot mark_length
    blank_length b =
        eqb-true (number (part (mark e s i) 4 2)) 0
        (number_zero (part (mark e s i) 4 2) ∙ all_zero_part (mark e s i) 4 2 (omega (arith, l)) (and_left (all_zero (mark e s i)) _ b))

    blank_zeros : blank_slot e s i ≡ true → all_zero (part (mark e s i) 6 2) ≡ true
    unfolding blank_slot
    blank_zeros b = all_zero_part (mark e s i) 6 2 (omega (arith, l)) (and_left (all_zero (mark e s i)) _ b)

    is_written : blank_slot e s i ≡ false → Written (last_write s) (mark e s i)
    unfolding fit_slot
    is_written b = mark_written (last_write s) (mark e s i) (rw b at f)

    pub fit_number : wrong_number e s i ≡ false
    unfolding wrong_number
    fit_number = go (blank_slot e s i) refl
      where
        go : (b : Bool) → blank_slot e s i ≡ b → not b && not (leb 1 (mark_number (mark e s i)) && leb (mark_number (mark e s i)) (last_write s)) ≡ false
        go true h = refl
        go false h =
            let w = is_written h in
            rw (le-leb 1 (mark_number (mark e s i)) w.positive, le-leb (mark_number (mark e s i)) (last_write s) w.at_most)

    pub fit_length : wrong_length ≡ false
    fit_length = go (blank_slot e s i) refl
      where
        go : (b : Bool) → blank_slot e s i ≡ b → ltb 192 (mark_length (mark e s i)) ≡ false
        go true h = le-ltb 192 (mark_length (mark e s i)) (omega (arith, blank_length h))
        go false h = le-ltb 192 (mark_length (mark e s i)) (is_written h).short

    pub fit_zeros : wrong_zeros ≡ false
    fit_zeros = go (blank_slot e s i) refl
      where
        go : (b : Bool) → blank_slot e s i ≡ b → not (all_zero (part (mark e s i) 6 2)) ≡ false
        go true h = rw (blank_zeros h)
        go false h = rw (is_written h).pad

-- ---- the first of them

module _ (s : List ℕ) (i : ℕ) (l : i < slots s) where
  rows : Edition → ℕ → Option Fault
  rows e n = first_in (slot_faults e s n i)

  more : slots s - i ≡ suc (slots s - (i + 1))
  more = omega arith

  pub first_number : wrong_number (edition_of s) s i ≡ true → Some (Mark i Number) ≡ slots_fault s i
  unfolding slots_fault slot_faults first_in decided
  first_number a = rw (more, a)

  module _ (a : wrong_number (edition_of s) s i ≡ false) where
    pub first_length : wrong_length (edition_of s) s i ≡ true → Some (Mark i Length) ≡ slots_fault s i
    unfolding slots_fault slot_faults first_in decided
    first_length b = rw (more, a, b)

    module _ (b : wrong_length (edition_of s) s i ≡ false) where
      pub first_zero : wrong_zeros (edition_of s) s i ≡ true → Some (Mark i (Zero (first_set (mark (edition_of s) s i) 6 2))) ≡ slots_fault s i
      unfolding slots_fault slot_faults first_in decided
      first_zero c = rw (more, a, b, c)

      pub first_after : wrong_zeros (edition_of s) s i ≡ false → slots_fault s (i + 1) ≡ slots_fault s i
      unfolding slots_fault slot_faults first_in decided
      first_after c = rw (more, a, b, c) (ap (λ (k : ℕ). decided (slot_faults (edition_of s) s (slots s - (i + 1)) k) None Some) {x = i + 1} {y = suc i} (omega arith))

-- ---- slot i of a sheet s of shape h, which is not fit: x was read of its mark

module _ (s : List ℕ) (h : Shape) (i : ℕ) (p : SlotIn s h i) (w : ℕ) (g : w ≡ last_write s) (u : fit_slot (edition_of s) s i ≡ false)
    (a : ℕ) (q : a ≡ mark_at h.header i) (x : ℕ) (ex : x ≡ number (part s a 4)) where
  m : List ℕ
  m = mark (edition_of s) s i

  below : i < slots s
  below = omega (arith, p.below, slots_are s h i p)

  pub mark_bytes : a + 16 ≤ length s
  mark_bytes = omega (arith, q, mark_inside s h i p)

  mark_is : mark (edition_of s) s i ≡ part s a 16
  mark_is = sym (slot_mark_lem s h i p a q) ∙ part_span s a 16

  part_is : (k n : ℕ) → k + n ≤ 16 → part (mark (edition_of s) s i) k n ≡ part s (a + k) n
  part_is k n b = ap (λ (v : List ℕ). part v k n) mark_is ∙ part_part s a 16 k n b

  byte_is : (k : ℕ) → k < 16 → get_or (mark (edition_of s) s i) k 0 ≡ get_or s (a + k) 0
  byte_is k b = ap (λ (v : List ℕ). get_or v k 0) mark_is ∙ get_or_part s a 16 k b

  number_is : mark_number (mark (edition_of s) s i) ≡ x
  unfolding mark_number
  number_is = ap number (part_is 0 4 (omega arith) ∙ ap (λ (k : ℕ). part s k 4) {x = a + 0} {y = a} (omega arith)) ∙ sym ex

  length_is : (y : ℕ) → y ≡ number (part s (a + 4) 2) → mark_length (mark (edition_of s) s i) ≡ y
  unfolding mark_length
  length_is y ey = ap number (part_is 4 2 (omega arith)) ∙ sym ey

  not_blank : blank_slot (edition_of s) s i ≡ false
  unfolding fit_slot
  not_blank = go (blank_slot (edition_of s) s i) u
    where
      go : (b : Bool) → b || written_mark (last_write s) (mark (edition_of s) s i) ≡ false → b ≡ false
      go true e = e
      go false e = refl

  number_wrong : (leb 1 x && leb x w ≡ false) → wrong_number (edition_of s) s i ≡ true
  unfolding wrong_number
  number_wrong b = rw (not_blank, number_is, ← g, b)

  pub rule_zero : x ≡ 0 → Some (Mark i Number) ≡ slots_fault s i
  rule_zero z = first_number s i below (number_wrong (rw (lt-leb 1 x (omega arith))))

  pub rule_late : (x ≡ 0 → ⊥) → w < x → Some (Mark i Number) ≡ slots_fault s i
  rule_late z b = first_number s i below (number_wrong (rw (lt-leb x w b, le-leb 1 x (omega (arith, z)))))

  module _ (z : x ≡ 0 → ⊥) (b : x ≤ w) (y : ℕ) (ey : y ≡ number (part s (a + 4) 2)) where
    number_right : wrong_number (edition_of s) s i ≡ false
    unfolding wrong_number
    number_right = rw (not_blank, number_is, ← g, le-leb 1 x (omega (arith, z)), le-leb x w b)

    pub rule_long : 192 < y → Some (Mark i Length) ≡ slots_fault s i
    rule_long c = first_length s i below number_right (rw (length_is y ey, lt-ltb 192 y c))

    module _ (c : y ≤ 192) (v : ℕ) (ev : v ≡ get_or s (a + 6) 0) where
      length_right : wrong_length (edition_of s) s i ≡ false
      length_right = rw (length_is y ey, le-ltb 192 y c)

      -- the third rule is broken, since no other is
      zeros_wrong : wrong_zeros (edition_of s) s i ≡ true
      zeros_wrong = go (wrong_zeros (edition_of s) s i) refl
        where
          go : (b : Bool) → wrong_zeros (edition_of s) s i ≡ b → b ≡ true
          go true e = refl
          go false e = absurd (not_both (fit_slot (edition_of s) s i) (rows_fit (edition_of s) s i number_right length_right e) u)

      six_is : get_or (mark (edition_of s) s i) 6 0 ≡ v
      six_is = byte_is 6 (omega arith) ∙ sym ev

      zero_at : (k : ℕ) → first_set (mark (edition_of s) s i) 6 2 ≡ k → Some (Mark i (Zero k)) ≡ slots_fault s i
      zero_at k e = ap (λ (j : ℕ). Some (Mark i (Zero j))) (sym e) ∙ first_zero s i below number_right length_right zeros_wrong

      pub rule_six : (v ≡ 0 → ⊥) → Some (Mark i (Zero 6)) ≡ slots_fault s i
      rule_six d =
          zero_at 6
          (omega (
            arith,
            set_low (mark (edition_of s) s i) 6 2,
            set_least (mark (edition_of s) s i) 6 2 6 (omega arith) (omega arith) (λ e. d (sym six_is ∙ e)),
          ))

      pub rule_seven : v ≡ 0 → Some (Mark i (Zero 7)) ≡ slots_fault s i
      rule_seven d =
          zero_at 7
          (omega (arith, other, set_low (mark (edition_of s) s i) 6 2, set_below (mark (edition_of s) s i) 6 2 (not-true _ zeros_wrong)))
        where
          other : first_set (mark (edition_of s) s i) 6 2 ≡ 6 → ⊥
          other e = set_there (mark (edition_of s) s i) 6 2 (not-true _ zeros_wrong) (ap (λ (j : ℕ). get_or (mark (edition_of s) s i) j 0) e ∙ six_is ∙ d)

-- what was found of a slot
pub slot_unfit : (s : List ℕ) (i : ℕ) (r : Bool) → r ≡ fit_slot (edition_of s) s i → r ≡ false → fit_slot (edition_of s) s i ≡ false
slot_unfit s i r e t = sym e ∙ t

-- ---- the slots of a sheet s of shape h, of which those below i break no rule

module _ (s : List ℕ) (h : Shape) (p : SheetOf s h) (i : ℕ) where
  in_sheet : i < h.slots → i < slots s
  in_sheet l = omega (arith, sheet_slots s h p)

  module _ (v : slots_fault s i ≡ slots_fault s 0) (l : i < h.slots) where
    pub slots_found : (r : MarkRule) → Some (Mark i r) ≡ slots_fault s i → Some (Mark i r) ≡ slots_fault s 0
    slots_found r e = e ∙ v

    mark_size : length (mark (edition_of s) s i) ≡ 16
    mark_size =
        let q = slot_of s h p i l in
        sym (ap length (slot_mark_lem s h i q (mark_at h.header i) refl))
        ∙ ap length (part_span s (mark_at h.header i) 16)
        ∙ length_part s (mark_at h.header i) 16 (mark_inside s h i q)

    pub slots_next : (r : Bool) → r ≡ fit_slot (edition_of s) s i → r ≡ true → slots_fault s (i + 1) ≡ slots_fault s 0
    slots_next r e t =
        let f = sym e ∙ t in
        first_after s i (in_sheet l) (fit_number (edition_of s) s i mark_size f) (fit_length (edition_of s) s i mark_size f) (fit_zeros (edition_of s) s i mark_size f) ∙ v

  pub slots_end : slots_fault s i ≡ slots_fault s 0 → h.slots ≤ i → None ≡ slots_fault s 0
  slots_end v l = past ∙ v
    where
      none : slots s - i ≡ 0
      none = omega (arith, sheet_slots s h p)

      past : None ≡ slots_fault s i
      past = unfold slots_fault slot_faults first_in decided in rw none
