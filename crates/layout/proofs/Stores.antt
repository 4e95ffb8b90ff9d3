-- Laws of blanking, of zeroing a slot, and of the shape of a sheet after a store.
use mathlib.Core.Path.{◌≡◌, refl, sym, ap, ◌∙◌}
use mathlib.Core.List.{List, [], ◌∷◌, ◌++◌}
use Prim.Native.Nat.{ℕ, ◌+◌, ◌*◌, ◌/◌, ◌%◌, ◌≤◌, ◌<◌}
use native.Mathlib.Nat.{mod-eq_of_lt, div-one}
use native.Mathlib.Omega.{arith}
use lib.ListN.{length, set, replicate, replicate-append-replicate}
use Rattle.octets.specs.Bytes.{be, number, zeros, part, put}
use Rattle.octets.proofs.Numbers.{length_be}
use Rattle.octets.proofs.Parts.{length_put, part_put_before, part_put_after}
use Rattle.layout.specs.declared.Shape.{Shape}
use Rattle.layout.specs.Layout.{new_edition, edition_of, slots, key_class, edition_byte, serial, sheet_size, mark_at, field_at, store_slot, store_last, first_eight, serial_header, blank_header, blank_slots, blank_sheet}
use Rattle.layout.specs.Shape.{shape_of, SlotIn}
use Rattle.layout.proofs.Header.{edition_cases, header_holds}
use Rattle.layout.proofs.Slots.{header_is, slots_are}

-- the stores of the header into zeros
pub blank_stored : (s l m : List ℕ) (n t x : ℕ) → l ≡ zeros (length s) → length m ≡ 6 → length s ≡ sheet_size new_edition.header n → t < 256
    → put (put (set (set (put l 0 (be 2 n)) 2 t) 3 3) 8 (be 2 x)) 10 m ≡ blank_sheet n t x m
unfolding blank_sheet blank_slots blank_header serial_header first_eight zeros be sheet_size put
blank_stored s l m n t x e six f g =
    let k : length s ≡ 16 + 208 * n = f in
    let z : l ≡ replicate 16 0 ++ replicate (208 * n) 0 = e ∙ rw k (sym (replicate-append-replicate 16 (208 * n) 0)) in
    let b : t % 256 ≡ t = mod-eq_of_lt g in
    rw (z, six, div-one t, b)

-- the bytes of a number as std spells them
pub be_two : (x : ℕ) → x / 256 % 256 ∷ x % 256 ∷ [] ≡ be 2 x
unfolding be
be_two x = rw (div-one x)

-- all bytes of a slot
pub slot_zeroed : (s t u : List ℕ) (h : Shape) (i a b : ℕ) → SlotIn s h i → b ≡ field_at h.header h.slots i → t ≡ put s b (zeros 192)
    → a ≡ mark_at h.header i → u ≡ put t a (zeros 16) → u ≡ store_slot (edition_of s) s i (zeros 16) (zeros 192)
unfolding store_slot
slot_zeroed s t u h i a b p e f g d =
    d
    ∙ rw (f, e, g, header_is s h i p, slots_are s h i p)

-- the last write number
pub last_stored : (s t x : List ℕ) (w : ℕ) → x ≡ be 4 w → t ≡ put s 4 x → t ≡ store_last s w
unfolding store_last
last_stored s t x w e f = f ∙ ap (put s 4) e

-- ---- the shape after a store, which is read from the bytes of the header that a write keeps

pub length_last : (s : List ℕ) (w : ℕ) → 8 ≤ length s → length (store_last s w) ≡ length s
unfolding store_last
length_last s w h = length_put s (be 4 w) 4 (omega (arith, length_be 4 w))

module _ (s t : List ℕ) (n : part t 0 2 ≡ part s 0 2) (c : part t 2 1 ≡ part s 2 1) (e : part t 3 1 ≡ part s 3 1)
    (x : (edition_of s).header ≡ 16 → part t 8 2 ≡ part s 8 2) where
  edition_same : edition_of t ≡ edition_of s
  unfolding edition_of edition_byte
  edition_same = rw e

  tail_same : (edition_of s).tail t ≡ (edition_of s).tail s
  unfolding serial
  tail_same = edition_cases (λ d. (d.header ≡ 16 → part t 8 2 ≡ part s 8 2) → d.tail t ≡ d.tail s) s (λ f h g. refl) (λ h g. ap number (g refl)) (λ h g. ap number (g refl)) x

  shape_same : shape_of t ≡ shape_of s
  unfolding shape_of slots key_class
  shape_same = rw (edition_same, n, c, tail_same)

pub shape_last : (s : List ℕ) (w : ℕ) → 8 ≤ length s → shape_of (store_last s w) ≡ shape_of s
unfolding store_last
shape_last s w h =
    let before = part_put_before s (be 4 w) 4 (omega (arith, length_be 4 w)) in
    shape_same s (put s 4 (be 4 w)) (before 0 2 (omega arith)) (before 2 1 (omega arith)) (before 3 1 (omega arith))
    (λ g. part_put_after s (be 4 w) 4 (omega (arith, length_be 4 w)) 8 2 (omega (arith, length_be 4 w)))

module _ (s xs : List ℕ) (a : ℕ) (fits : a + length xs ≤ length s) where
  pub shape_put : (edition_of s).header ≤ a → shape_of (put s a xs) ≡ shape_of s
  shape_put h =
      let before = part_put_before s xs a fits in
      let eight = header_holds s in
      shape_same s (put s a xs) (before 0 2 (omega (arith, eight))) (before 2 1 (omega (arith, eight))) (before 3 1 (omega (arith, eight)))
      (λ g. before 8 2 (omega (arith, g)))

  pub slot_put : (h : Shape) (i : ℕ) → h.header ≤ a → SlotIn s h i → SlotIn (put s a xs) h i
  slot_put h i l p =
      record {
        shape = p.shape ∙ sym (shape_put (omega (arith, header_is s h i p)));
        size = length_put s xs a fits ∙ p.size;
        small = p.small;
        below = p.below;
      }

pub slot_last : (s : List ℕ) (w : ℕ) (h : Shape) (i : ℕ) → 8 ≤ length s → SlotIn s h i → SlotIn (store_last s w) h i
slot_last s w h i l p =
    record {
      shape = p.shape ∙ sym (shape_last s w l);
      size = length_last s w l ∙ p.size;
      small = p.small;
      below = p.below;
    }
