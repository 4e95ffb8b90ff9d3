-- Laws of opening a slot into a window, one for each way out of a function.
use mathlib.Core.Path.{◌≡◌, sym, ap, ◌∙◌}
use mathlib.Core.Bool.{Bool, true, false, not}
use mathlib.Core.List.{List}
use Prim.Native.Nat.{ℕ, ◌+◌, ◌-◌, ◌/◌, ◌≤◌, ◌<◌}
use native.Mathlib.Nat.{add-zero}
use native.Mathlib.Omega.{arith}
use lib.ListN.{length, take, drop, length-drop}
use lib.Seq.{take_all}
use Rattle.std.specs.Prelude.{Ok, Err}
use Rattle.octets.specs.Bytes.{number, zeros, part, all_zero, same}
use Rattle.octets.proofs.Outcome.{decided_first, decided_rest, decided_none}
use Rattle.octets.proofs.Parts.{part_part, part_span, length_span}
use Rattle.octets.proofs.Zeros.{zeros_size}
use Rattle.cipher.specs.declared.Key.{Key}
use Rattle.cipher.specs.Key.{loaded, decrypted}
use Rattle.modes.specs.Cbc.{cbc_decrypt}
use Rattle.layout.specs.declared.Shape.{Shape}
use Rattle.layout.specs.Layout.{edition_of, key_class, last_write, mark_number, mark_length, mark_check, mark_at, field_at, mark, field}
use Rattle.layout.specs.Shape.{shape_of, SlotIn}
use Rattle.layout.proofs.Fits.{fit_facts, not_blank_written, written_length, slot_header, slot_placed}
use Rattle.layout.proofs.Slots.{header_is, slots_are}
use Rattle.faults.specs.Faults.{first_set}
use Rattle.faults.proofs.Places.{set_high}
use Rattle.captions.specs.Answers.{Outcome, outcome}
use Rattle.captions.specs.Captions.{pair, loaded_for, start_block, check_of, opened_field, opened, altered, change}
use Rattle.captions.specs.declared.Refusal.TheVariants.{Altered}
use Rattle.captions.specs.declared.Change.TheVariants.{Check, Byte}
use Rattle.slots.specs.Inner.{ciphers, left_in, slot_shown, Written, Placed}
use Rattle.slots.proofs.Sealing.{field_inside, tail_is, keys_loaded}

pub check_same : (s x y : List ℕ) (a b : ℕ) (r : Bool) → x ≡ y → b ≡ a → r ≡ same x (take ((b + 8 + 8) - (b + 8)) (drop (b + 8) s)) → r ≡ same y (part s (a + 8) 8)
check_same s x y a b r e q f = f ∙ rw (part_span s (b + 8) 8, e, q)

pub field_opened : (k : Key) (s start out : List ℕ) (h : Shape) (i b w : ℕ) → Placed (length s) h i → b ≡ field_at h.header h.slots i → start ≡ start_block (ciphers k k) h.tail w i
    → out ≡ cbc_decrypt (decrypted k) (length (take ((b + 192) - b) (drop b s)) / 8) start (take ((b + 192) - b) (drop b s))
    → out ≡ opened_field (ciphers k k) h.tail w i (part s (field_at h.header h.slots i) 192)
unfolding opened_field
field_opened k s start out h i b w p q e f = f ∙ rw (length_span s b 192 (omega (arith, field_inside p)), part_span s b 192, e, q)

-- a part `s[len..]`
pub tail_part : (s : List ℕ) (len : ℕ) (r : Bool) → r ≡ all_zero (take (length s - len) (drop len s)) → r ≡ all_zero (drop len s)
tail_part s len r e =
    let h : length (drop len s) ≤ length s - len = simp length-drop (omega arith) in
    e ∙ rw (take_all (length s - len) (drop len s) h)

-- the place of a byte in 192 is a byte
pub left_small : (s : List ℕ) (len p : ℕ) → len ≤ 192 → p ≡ first_set s len (192 - len) → p < 256
left_small s len p h e = omega (arith, e, set_high s len (192 - len))

-- v is what was opened, b the place that was found in it
pub left_refused : (v w : List ℕ) (i len b : ℕ) → b ≡ first_set v len (192 - len) → w ≡ zeros (length v) → outcome (Err (Altered i (Byte b))) w ≡ left_in v i len
unfolding left_in
left_refused v w i len b e z = rw (e, z)

-- ---- slot i of a sheet s of shape h: w and len are what was read of its mark, which lies at a

module _ (s : List ℕ) (h : Shape) (i : ℕ) (p : SlotIn s h i) (a : ℕ) (q : a ≡ mark_at h.header i) where
  mark_part : (b n : ℕ) → b + n ≤ 16 → part (mark (edition_of s) s i) b n ≡ part s (a + b) n
  unfolding mark
  mark_part b n l = part_part s (mark_at (edition_of s).header i) 16 b n l ∙ rw (q, header_is s h i p)

  number_read : (w : ℕ) → w ≡ number (part s a 4) → w ≡ mark_number (mark (edition_of s) s i)
  unfolding mark_number
  number_read w e = e ∙ sym (ap number (mark_part 0 4 (omega arith) ∙ rw add-zero))

  length_read : (len : ℕ) → len ≡ number (part s (a + 4) 2) → len ≡ mark_length (mark (edition_of s) s i)
  unfolding mark_length
  length_read len e = e ∙ sym (ap number (mark_part 4 2 (omega arith)))

  pub length_few : (len : ℕ) → len ≡ number (part s (a + 4) 2) → mark_length (mark (edition_of s) s i) ≤ 192 → len ≤ 192
  length_few len e l = omega (arith, length_read len e)

  pub length_inside : (len : ℕ) → len ≡ number (part s (a + 4) 2) → mark_length (mark (edition_of s) s i) ≤ 192 → (x window : List ℕ) → window ≡ zeros 192 → length x ≡ length window → len ≤ length x
  length_inside len e l x window z j = omega (arith, length_read len e, zeros_size window 192 z)

  check_read : part s (a + 8) 8 ≡ mark_check (mark (edition_of s) s i)
  unfolding mark_check
  check_read = sym (mark_part 8 8 (omega arith))

  field_read : part s (field_at h.header h.slots i) 192 ≡ field (edition_of s) s i
  unfolding field
  field_read = rw (header_is s h i p, slots_are s h i p)

  module _ (k m : Key) (w len : ℕ) (n : w ≡ number (part s a 4)) (l : len ≡ number (part s (a + 4) 2))
      (r : Bool) (e : r ≡ same (check_of (ciphers m m) w i len (part s (field_at h.header h.slots i) 192)) (part s (mark_at h.header i + 8) 8)) where
    check_found : r ≡ same (check_of (ciphers k m) (mark_number (mark (edition_of s) s i)) i (mark_length (mark (edition_of s) s i)) (field (edition_of s) s i)) (mark_check (mark (edition_of s) s i))
    unfolding check_of
    check_found = e ∙ rw (← q, check_read, field_read, number_read w n, length_read len l)

    -- the check differs
    pub shown_other_check : (window : List ℕ) → window ≡ zeros 192 → r ≡ false → outcome (Err (Altered i Check)) window ≡ slot_shown (ciphers k m) s i
    unfolding slot_shown altered change
    shown_other_check window z t = decided_first _ _ _ _ _ (rw (← check_found, t)) (rw (← check_found, t, z))

    -- the check is right; x is what was opened, v what was found of its bytes at or past the length
    module _ (t : r ≡ true) (x : List ℕ) (o : x ≡ opened_field (ciphers k k) h.tail w i (part s (field_at h.header h.slots i) 192)) (v : Bool) (f : v ≡ all_zero (drop len x)) where
      field_is : x ≡ opened (ciphers k m) (edition_of s) s i
      unfolding opened opened_field start_block
      field_is = o ∙ rw (field_read, number_read w n, tail_is s h p.shape)

      altered_is : altered (ciphers k m) (edition_of s) s i ≡ not v
      unfolding altered
      altered_is = rw (← check_found, t, ← field_is, ← length_read len l, ← f)

      change_is : change (ciphers k m) (edition_of s) s i ≡ Byte (first_set x len (192 - len))
      unfolding change
      change_is = rw (← check_found, t, ← field_is, ← length_read len l)

      pub shown : v ≡ true → outcome (Ok len) x ≡ slot_shown (ciphers k m) s i
      unfolding slot_shown
      shown u = decided_rest _ _ _ _ _ (altered_is ∙ rw u) (rw (← field_is, ← length_read len l) (decided_none _ _))

      pub shown_tail : v ≡ false → (window : List ℕ) → window ≡ zeros 192 → length x ≡ length window → (u : Outcome) → u ≡ left_in x i len → u ≡ slot_shown (ciphers k m) s i
      unfolding slot_shown left_in
      shown_tail g window z j u d = d ∙ decided_first _ _ _ _ _ (altered_is ∙ rw g) (rw (j, zeros_size window 192 z, change_is))

-- ---- a slot that isn't blank, and the keys that were loaded

module _ (s : List ℕ) (i : ℕ) (p : Written s i) where
  pub written_header : (edition_of s).header ≤ length s
  written_header = slot_header s i p.slot

  pub written_placed : (h : Shape) → h ≡ shape_of s → SlotIn s h i
  written_placed = slot_placed s i p.slot

  pub written_short : mark_length (mark (edition_of s) s i) ≤ 192
  written_short =
      written_length (last_write s) (mark (edition_of s) s i)
      (not_blank_written (edition_of s) s (fit_facts s p.slot.fits) i p.slot.below p.marked)

pub shown_loaded : (s : List ℕ) (i : ℕ) (sealing checking : List ℕ) (h : Shape) → h ≡ shape_of s → (k m : Key) → k ≡ loaded h.class sealing → m ≡ loaded h.class checking
    → (x : Outcome) → x ≡ slot_shown (ciphers k m) s i → x ≡ slot_shown (loaded_for (key_class s) (pair sealing checking)) s i
shown_loaded s i sealing checking h q k m f g x u = u ∙ rw (keys_loaded s sealing checking h q k m f g)
