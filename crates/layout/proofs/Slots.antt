-- Laws of marks and slots, one for each way out of a function that decides them.
use mathlib.Core.Path.{◌≡◌, refl, sym, ap, ap₂, ◌∙◌}
use mathlib.Core.Bool.{Bool, true, false, ◌&&◌, and-true}
use mathlib.Core.List.{List, [], ◌∷◌, ◌++◌}
use Prim.Native.Nat.{ℕ, zero, suc, ◌+◌, ◌-◌, ◌*◌, ◌^◌, ◌≤◌, ◌<◌}
use native.Mathlib.Nat.{add-zero}
use native.Mathlib.Omega.{arith}
use borrow.Author.Tests.{ne_eqb}
use lib.Dec.{eqb}
use lib.ListN.{length, take, drop}
use Rattle.std.specs.List.{list_all, range_with_len}
use Rattle.std.proofs.lemmas.List.Folds.{list_all-append}
use Rattle.octets.specs.Bytes.{number, part, all_zero, all_below}
use Rattle.octets.proofs.Bool.{and_false_left}
use Rattle.octets.proofs.Numbers.{pow256_pos}
use Rattle.octets.proofs.Parts.{part_span}
use Rattle.layout.specs.declared.Shape.{Shape}
use Rattle.layout.specs.Layout.{slots, edition_of, sheet_size, mark_at, field_at, mark, field, blank_slot}
use Rattle.layout.specs.Shape.{shape_of, SheetOf, SlotIn}

-- ---- marks

-- bytes spell zero exactly where all are zero
pub number_zero : (s : List ℕ) → eqb (number s) 0 ≡ all_zero s
unfolding number all_zero
number_zero [] = refl
number_zero (zero ∷ s) = ap (λ (n : ℕ). eqb n 0) {x = 0 * 256 ^ length s + number s} {y = number s} (omega arith) ∙ number_zero s
number_zero (suc x ∷ s) = ne_eqb (suc x * 256 ^ length s + number s) 0 (λ q. omega (arith, pow256_pos (length s))) ∙ sym (and_false_left (eqb (suc x) 0) (all_zero s) (ne_eqb (suc x) 0 (λ q. omega arith)))

-- ---- a test of each number of a range

range_more : (a n : ℕ) → range_with_len a (suc n) ≡ range_with_len a n ++ (a + n) ∷ []
range_more a zero = rw (add-zero a)
range_more a (suc n) = ap (λ (s : List ℕ). a ∷ s) (range_more (a + 1) n ∙ ap (λ (k : ℕ). range_with_len (a + 1) n ++ k ∷ []) {x = a + 1 + n} {y = a + suc n} (omega arith))

pub range_all : (p : ℕ → Bool) (n : ℕ) → list_all p (range_with_len 0 n) ≡ all_below n p
unfolding all_below
range_all p zero = refl
range_all p (suc n) =
    ap (list_all p) (range_more 0 n)
    ∙ list_all-append p (range_with_len 0 n) ((0 + n) ∷ [])
    ∙ ap₂ (λ (b c : Bool). b && c) (range_all p n) (and-true (p (0 + n)) ∙ ap p {x = 0 + n} {y = n} (omega arith))

-- ---- slot i of a sheet s of shape h

module _ (s : List ℕ) (h : Shape) (i : ℕ) (p : SlotIn s h i) where
  pub mark_inside : mark_at h.header i + 16 ≤ length s
  unfolding mark_at sheet_size
  mark_inside = omega (arith, p.size, p.below)

  pub field_inside : field_at h.header h.slots i + 192 ≤ length s
  unfolding field_at sheet_size
  field_inside = omega (arith, p.size, p.below)

  pub header_is : h.header ≡ (edition_of s).header
  unfolding shape_of
  header_is = ap (λ (g : Shape). g.header) p.shape

  pub slots_are : h.slots ≡ slots s
  unfolding shape_of
  slots_are = ap (λ (g : Shape). g.slots) p.shape

  pub slot_mark_lem : (a : ℕ) → a ≡ mark_at h.header i → take ((a + 16) - a) (drop a s) ≡ mark (edition_of s) s i
  unfolding mark
  slot_mark_lem a e = part_span s a 16 ∙ ap (λ (k : ℕ). part s k 16) (e ∙ ap (λ (k : ℕ). mark_at k i) header_is)

  pub slot_field : (b : ℕ) → b ≡ field_at h.header h.slots i → take ((b + 192) - b) (drop b s) ≡ field (edition_of s) s i
  unfolding field
  slot_field b e = part_span s b 192 ∙ ap (λ (k : ℕ). part s k 192) (e ∙ ap₂ (λ (k n : ℕ). field_at k n i) header_is slots_are)

  -- r is what was found of the mark
  module _ (a : ℕ) (e : a ≡ mark_at h.header i) (r : Bool) where
    pub blank_no : r ≡ all_zero (take ((a + 16) - a) (drop a s)) → r ≡ false → false ≡ blank_slot (edition_of s) s i
    unfolding blank_slot
    blank_no f t = rw (← slot_mark_lem a e, ← f, t)

    pub blank_field : r ≡ all_zero (take ((a + 16) - a) (drop a s)) → r ≡ true
        → (b : ℕ) → b ≡ field_at h.header h.slots i → (q : Bool) → q ≡ all_zero (take ((b + 192) - b) (drop b s)) → q ≡ blank_slot (edition_of s) s i
    unfolding blank_slot
    blank_field f t b g q u = rw (← slot_mark_lem a e, ← f, t, ← slot_field b g) u

-- ---- the slots of a sheet s of shape h

module _ (s : List ℕ) (h : Shape) (p : SheetOf s h) where
  pub sheet_slots : h.slots ≡ slots s
  unfolding shape_of
  sheet_slots = ap (λ (g : Shape). g.slots) p.shape

  pub slot_of : (i : ℕ) → i < h.slots → SlotIn s h i
  slot_of i l = record { shape = p.shape; size = p.size; small = p.small; below = l }
