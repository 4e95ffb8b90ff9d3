-- An accepted read of any sheet: the slot's bytes are those that a write of its number, slot and caption stores.
use Prim.Native.Nat.{ℕ, ◌-◌, ◌<◌}
use mathlib.Core.Path.{◌≡◌, refl, sym, ap, ◌∙◌}
use mathlib.Core.Bool.{Bool, true, false, not, ◌||◌}
use mathlib.Core.List.{List, ◌++◌}
use native.Mathlib.Omega.{arith}
use lib.ListN.{length, take, drop, length-drop, take-append-drop}
use lib.Seq.{length-take-le}
use borrow.Author.Tests.{leb-false, not-false}
use Rattle.octets.specs.Bytes.{Bytes, be, zeros, part, all_zero, same}
use Rattle.octets.proofs.Compare.{same_is}
use Rattle.octets.proofs.EveryByte.{part_bytes}
use Rattle.octets.proofs.Numbers.{be_zero}
use Rattle.octets.proofs.Parts.{length_part, part_all, part_add}
use Rattle.octets.proofs.Zeros.{all_zero_is}
use Rattle.modes.specs.Laws.{ByteBlocks}
use Rattle.layout.specs.Layout.{Edition, slots, last_write, mark_number, mark_length, mark_check, mark_at, field_at, mark, field, blank_slot, fit_in}
use Rattle.captions.specs.Captions.{Keys, Ciphers, padded, new_mark, start_block, sealed_field, opened_field, check_of, slot_mark, opened, altered}
use Rattle.captions.specs.Calls.{key_tests, other_class, class_tests, sheet_tests, window_tests, open_tests, read_tests, reading_with}
use Rattle.captions.specs.Claim.{Sound}
use Rattle.captions.proofs.Tables.{Unmet, end, next}
use Rattle.captions.proofs.Accepted.{accepted_unmet}
use Rattle.layout.proofs.Fits.{Rules, fit_rules, length_mark, length_field, Written, mark_written, not_blank_written}
use Rattle.captions.proofs.Slot.{start_block_lem, chaining, be_part}

-- what an accepted read has found
pub record Read (e : Edition) (x : Ciphers) (k : Keys) (s : List ℕ) (i : ℕ) : Type 0 where
  pub keys : Unmet (key_tests k)
  pub fits : fit_in e s ≡ true
  pub class : other_class k s ≡ false
  pub slot : i < slots s
  pub marked : blank_slot e s i ≡ false
  pub unaltered : altered x e s i ≡ false

pub or_false_left : (a b : Bool) → a || b ≡ false → a ≡ false
or_false_left true b h = h
or_false_left false b h = refl

pub or_false_right : (a b : Bool) → a || b ≡ false → b ≡ false
or_false_right true b h = absurd (cc)
or_false_right false b h = h

pub accepted_read : (e : Edition) (x : Ciphers) (k : Keys) (s : List ℕ) (i : ℕ) (window : List ℕ) → (reading_with e x k s i window).number ≡ 0 → Read e x k s i
unfolding reading_with read_tests open_tests window_tests key_tests sheet_tests class_tests
accepted_read e x k s i window h = go (accepted_unmet _ _ _ (read_tests e x k s i window) h)
  where
    go : Unmet (read_tests e x k s i window) → Read e x k s i
    go (next t₁ (next t₂ (next t₃ (next t₄ (next t₅ (next t₁₄ (next t₆ (next t₉ (next t₁₀ end))))))))) =
        record {
          keys = next t₁ (next t₂ end);
          fits = not-false (fit_in e s) t₄;
          class = t₅;
          slot = leb-false (slots s) i t₆;
          marked = t₉;
          unaltered = t₁₀;
        }

-- ---- the mark and the field, from what was read

-- a mark is made of its parts
mark_parts : (m : List ℕ) → length m ≡ 16 → Bytes m → all_zero (part m 6 2) ≡ true → m ≡ new_mark (mark_number m) (mark_length m) (mark_check m)
unfolding new_mark mark_number mark_length mark_check
mark_parts m l b z =
    let pad : part m 6 2 ≡ be 2 0 = all_zero_is (part m 6 2) z ∙ ap zeros (length_part m 6 2 (omega arith)) ∙ sym (be_zero 2) in
    sym (rw (be_part m 0 4 (omega arith) b, be_part m 4 2 (omega arith) b, ← pad, ← part_add m 4 2 2, ← part_add m 0 4 4, ← part_add m 0 8 8) (part_all m 16 l))

-- n is the length that the mark stores, and v the window
module _ (e : Edition) (x : Ciphers) (k : Keys) (s : List ℕ) (i : ℕ) (ok : Sound x) (b : Bytes s) (r : Read e x k s i) where
  n : ℕ
  n = mark_length (mark e s i)

  v : List ℕ
  v = opened x e s i

  rules : Rules e s
  rules = fit_rules e s r.fits

  written : Written (last_write s) (mark e s i)
  written = mark_written (last_write s) (mark e s i) (not_blank_written e s rules i r.slot r.marked)

  field_blocks : ByteBlocks 24 (field e s i)
  unfolding field
  field_blocks = record { size = length_field e s rules i r.slot; bytes = part_bytes (field_at e.header (slots s) i) 192 b }

  length_window : length v ≡ 192
  unfolding v opened opened_field
  length_window =
      ((chaining x ok (e.tail s) (mark_number (mark e s i)) i).decrypts 24 (start_block x (e.tail s) (mark_number (mark e s i)) i) (field e s i)
      (start_block_lem x ok (e.tail s) (mark_number (mark e s i)) i) field_blocks).size

  length_taken : length (take n v) ≡ n
  unfolding n
  length_taken = length-take-le n v (omega (arith, written.short, length_window))

  check_is : check_of x (mark_number (mark e s i)) i (mark_length (mark e s i)) (field e s i) ≡ mark_check (mark e s i)
  unfolding altered
  check_is = same_is _ _ (not-false _ (or_false_left _ _ r.unaltered))

  rest_zero : drop n v ≡ zeros (192 - n)
  unfolding n v altered
  rest_zero =
      let check : Bool = same (check_of x (mark_number (mark e s i)) i (mark_length (mark e s i)) (field e s i)) (mark_check (mark e s i)) in
      all_zero_is (drop n v) (not-false _ (or_false_right (not check) _ r.unaltered))
      ∙ ap zeros (length-drop n v ∙ ap (λ (l : ℕ). l - n) length_window)

  -- in plain words, for the window and the length of an accepted read
  pub length_caption : length (take (mark_length (mark e s i)) (opened x e s i)) ≡ mark_length (mark e s i)
  unfolding n v
  length_caption = length_taken

  pub window_padded : opened x e s i ≡ take (mark_length (mark e s i)) (opened x e s i) ++ zeros (192 - mark_length (mark e s i))
  unfolding n v
  window_padded = sym (rw (← rest_zero) (take-append-drop n v))

  pub field_sealed : field e s i ≡ sealed_field x (e.tail s) (mark_number (mark e s i)) i (take (mark_length (mark e s i)) (opened x e s i))
  unfolding n v sealed_field padded opened opened_field
  field_sealed =
      sym (rw (length_taken, ← window_padded)
      ((chaining x ok (e.tail s) (mark_number (mark e s i)) i).encrypt_decrypt 24 (start_block x (e.tail s) (mark_number (mark e s i)) i) (field e s i)
      (start_block_lem x ok (e.tail s) (mark_number (mark e s i)) i) field_blocks))

  pub mark_sealed : mark e s i ≡ slot_mark x (mark_number (mark e s i)) i (take (mark_length (mark e s i)) (opened x e s i)) (field e s i)
  unfolding n v slot_mark mark
  mark_sealed =
      mark_parts (mark e s i) (length_mark e s rules i r.slot) (part_bytes (mark_at e.header i) 16 b) written.pad
      ∙ rw (length_taken, check_is)
