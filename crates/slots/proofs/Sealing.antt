-- Laws of sealing a caption into a slot, one for each way out of a function.
use mathlib.Core.Path.{◌≡◌, refl, sym, ap, ◌∙◌}
use mathlib.Core.List.{List, ◌++◌}
use Prim.Native.Nat.{ℕ, ◌+◌, ◌-◌, ◌/◌, ◌≤◌}
use native.Mathlib.Omega.{arith}
use lib.ListN.{length, take, drop, replicate}
use Rattle.octets.specs.Bytes.{be, zeros, part, put}
use Rattle.octets.proofs.Parts.{part_span, length_span, put_span, part_put, put_put}
use Rattle.octets.proofs.Zeros.{drop_zeros}
use Rattle.cipher.specs.declared.Key.{Key}
use Rattle.cipher.specs.Key.{loaded, encrypted}
use Rattle.modes.specs.Cbc.{cbc_encrypt}
use Rattle.modes.specs.Cmac.{cmac}
use Rattle.layout.specs.declared.Shape.{Shape}
use Rattle.layout.specs.Layout.{edition_of, key_class, last_write, sheet_size, mark_at, field_at, store_slot, store_last}
use Rattle.layout.specs.Shape.{shape_of, SlotIn}
use Rattle.layout.proofs.Slots.{header_is, slots_are}
use Rattle.captions.specs.Captions.{pair, loaded_for, padded, numbers, start_block, sealed_field, check_of, new_mark, slot_mark, stored_as, written}
use Rattle.slots.specs.Inner.{ciphers, Placed, FieldPut}

-- ---- the shape that was read of a sheet

pub tail_is : (s : List ℕ) (h : Shape) → h ≡ shape_of s → h.tail ≡ (edition_of s).tail s
unfolding shape_of
tail_is s h q = ap (λ (g : Shape). g.tail) q

pub keys_loaded : (s sealing checking : List ℕ) (h : Shape) → h ≡ shape_of s → (k m : Key) → k ≡ loaded h.class sealing → m ≡ loaded h.class checking
    → ciphers k m ≡ loaded_for (key_class s) (pair sealing checking)
unfolding shape_of loaded_for
keys_loaded s sealing checking h q k m e f = rw (e, f, q)

-- ---- where the parts of a slot lie

module _ {n : ℕ} {h : Shape} {i : ℕ} (p : Placed n h i) where
  mark_inside : mark_at h.header i + 16 ≤ n
  unfolding sheet_size mark_at
  mark_inside = omega (arith, p.size, p.below)

  pub field_inside : field_at h.header h.slots i + 192 ≤ n
  unfolding sheet_size field_at
  field_inside = omega (arith, p.size, p.below)

in_placed : {s : List ℕ} {h : Shape} {i : ℕ} → SlotIn s h i → Placed (length s) h i
in_placed p = record { size = p.size; small = p.small; below = p.below }

-- ---- the field

plain_padded : (c : List ℕ) → put (replicate 192 0) 0 c ≡ padded c
unfolding put padded zeros
plain_padded c =
    let q : 192 - (0 + length c) ≡ 192 - length c = omega arith in
    ap (λ (l : List ℕ). c ++ l) (drop_zeros (0 + length c) 192 ∙ rw q)

pub caption_sealed : (k : Key) (tail w i : ℕ) (c plain start out : List ℕ) → plain ≡ put (replicate 192 0) 0 c → length plain ≡ 192 → start ≡ start_block (ciphers k k) tail w i
    → out ≡ cbc_encrypt (encrypted k) (length plain / 8) start plain → out ≡ sealed_field (ciphers k k) tail w i c
unfolding sealed_field
caption_sealed k tail w i c plain start out e l f g = g ∙ rw (l, e, f, plain_padded c)

-- a part `s[b..b + 192]` that comes back as the field f
pub field_put : (s f g : List ℕ) (h : Shape) (i b : ℕ) → Placed (length s) h i → b ≡ field_at h.header h.slots i → length f ≡ length (take ((b + 192) - b) (drop b s)) → f ≡ g
    → FieldPut s (field_at h.header h.slots i) g (take b s ++ (f ++ drop ((b + 192) - b) (drop b s)))
field_put s f g h i b p q l e =
    let j : length g ≡ 192 = ap length (sym e) ∙ l ∙ length_span s b 192 (omega (arith, field_inside p)) in
    record { size = j; stored = put_span s f g b 192 e j ∙ ap (λ (n : ℕ). put s n g) q }

-- ---- the check and the mark

pub check_part : (m : Key) (s first r : List ℕ) (a b w i len : ℕ) → b ≡ a → first ≡ numbers w i len → r ≡ cmac (encrypted m) (first ++ take ((b + 192) - b) (drop b s))
    → r ≡ check_of (ciphers m m) w i len (part s a 192)
unfolding check_of
check_part m s first r a b w i len q e f = f ∙ rw (part_span s b 192, e, q)

length_numbers : (x y z : ℕ) → length (numbers x y z) ≡ 8
unfolding be
length_numbers x y z = refl

pub mark_put : (s s₁ s₂ head check : List ℕ) (h : Shape) (i a w len : ℕ) → Placed (length s) h i → a ≡ mark_at h.header i → length check ≡ 8 → head ≡ numbers w len 0 → s₁ ≡ put s a head → s₂ ≡ put s₁ (a + 8) check
    → s₂ ≡ put s (mark_at h.header i) (new_mark w len check)
unfolding new_mark
mark_put s s₁ s₂ head check h i a w len p q l e f g =
    let k : length (numbers w len 0) ≡ 8 = length_numbers w len 0 in
    let n : a + 8 ≡ a + length (numbers w len 0) = omega arith in
    g ∙ rw (f, e, n, put_put s (numbers w len 0) check a (omega (arith, mark_inside p)), q)

-- ---- the slot, and the write

module _ (s : List ℕ) (h : Shape) (i : ℕ) (p : SlotIn s h i) where
  pub slot_stored : (k m : Key) (w : ℕ) (c s₁ check s₂ s₃ : List ℕ) → FieldPut s (field_at h.header h.slots i) (sealed_field (ciphers k k) h.tail w i c) s₁
      → check ≡ check_of (ciphers m m) w i (length c) (part s₁ (field_at h.header h.slots i) 192) → s₂ ≡ put s₁ (mark_at h.header i) (new_mark w (length c) check) → s₃ ≡ store_last s₂ w
      → s₃ ≡ stored_as (ciphers k m) (edition_of s) s w i c
  unfolding stored_as store_slot slot_mark sealed_field start_block check_of
  slot_stored k m w c s₁ check s₂ s₃ f g e u =
      let b : ℕ = field_at h.header h.slots i in
      let x : List ℕ = sealed_field (ciphers k k) h.tail w i c in
      let v : part (put s b x) b 192 ≡ x = part_put s x b 192 f.size (field_inside (in_placed p)) in
      u ∙ rw (e, g, f.stored, v, header_is s h i p, slots_are s h i p, tail_is s h p.shape)

pub caption_written : (s sealing checking c s' : List ℕ) (h : Shape) (i w : ℕ) (k m : Key) → h ≡ shape_of s → w ≡ last_write s → k ≡ loaded h.class sealing → m ≡ loaded h.class checking
    → s' ≡ stored_as (ciphers k m) (edition_of s) s (w + 1) i c → s' ≡ written (loaded_for (key_class s) (pair sealing checking)) (edition_of s) s i c
unfolding written
caption_written s sealing checking c s' h i w k m q e f g u = u ∙ rw (keys_loaded s sealing checking h q k m f g, e)
