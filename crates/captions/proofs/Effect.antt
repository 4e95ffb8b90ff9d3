-- One call on any fit sheet that a pair of keys serves: the sheet stays fit and keeps its header but for the last write number,
-- the slot reads as what was written or cleared, and every other slot reads as before.
use Prim.Native.Nat.{ℕ, ◌+◌, ◌^◌, ◌≤◌, ◌<◌}
use mathlib.Core.Path.{◌≡◌, refl, sym, ap, ◌∙◌}
use mathlib.Core.Logic.{◌≢◌}
use mathlib.Core.Bool.{Bool, true, false, not, ◌&&◌}
use mathlib.Core.List.{List}
use native.Mathlib.Nat.{le_refl}
use native.Mathlib.Omega.{arith}
use lib.ListN.{length}
use Rattle.std.specs.Prelude.{Ok}
use borrow.Author.Tests.{lt-leb, eq-eqb}
use Rattle.octets.specs.Bytes.{Bytes, zeros, same}
use Rattle.octets.specs.Outcome.{decided}
use Rattle.octets.proofs.Compare.{same_self}
use Rattle.octets.proofs.Numbers.{number_part_lt}
use Rattle.octets.proofs.Zeros.{length_zeros, zeros_bytes}
use Rattle.modes.specs.Laws.{ByteBlocks}
use Rattle.layout.specs.Layout.{Edition, slots, last_write, serial, stored_mark, mark, field, blank_slot, store_slot, store_last}
use Rattle.layout.proofs.Fits.{Rules, fit_rules, rules_fit}
use Rattle.captions.specs.Answers.{first_of}
use Rattle.captions.specs.Captions.{Keys, Ciphers, mark_for, other_keys, padded, sealed_field, opened_field, check_of, slot_mark, stored_as, written, opened, altered, change, cleared}
use Rattle.captions.specs.Calls.{key_tests, other_class, class_tests, pair_tests, sheet_tests, window_tests, open_tests, read_tests, reading_with}
use Rattle.captions.specs.Model.{Page, blank, holds}
use Rattle.captions.specs.Claim.{SameHeader, Regular, Sound, Fits, shown}
use Rattle.captions.proofs.Tables.{Unmet, end, next, unmet_append, unmet_left, unmet_right, unmet_first, decided_past, decided_past_both, passed_unmet}
use Rattle.captions.proofs.Store.{Stored, key_class_kept, slots_kept, store_slot_lem, store_last_lem, store_slot_bytes, store_last_bytes}
use Rattle.captions.proofs.Fitted.{slot_fits, stored_rules}
use Rattle.captions.proofs.Slot.{zeros_blank, zeros_fit, padded_rest, sealed_blocks, opened_sealed, slot_mark_block, slot_mark_number, slot_mark_length, slot_mark_check, slot_mark_fits, slot_mark_not_blank}

-- from s to s': last write number w, slot j shows the page p, every other slot what it showed
pub record Effect (e : Edition) (x : Ciphers) (k : Keys) (j w : ℕ) (p : Page) (s s' : List ℕ) : Type 0 where
  pub fits : Fits e x k s'
  pub header : SameHeader e.header s s'
  pub last : last_write s' ≡ w
  pub at : (window : List ℕ) → length window ≡ 192 → reading_with e x k s' j window ≡ shown p
  pub others : (i : ℕ) → i < slots s → i ≢ j → (window : List ℕ) → length window ≡ 192 → reading_with e x k s' i window ≡ reading_with e x k s i window

-- ---- a fit sheet that the pair serves

module _ (e : Edition) (x : Ciphers) (k : Keys) (s : List ℕ) (passes : first_of (pair_tests e x k s) ≡ Ok tt) where
  pair_passed : Unmet (pair_tests e x k s)
  unfolding first_of
  pair_passed = passed_unmet (pair_tests e x k s) passes

  pub keys_passed : Unmet (key_tests k)
  unfolding pair_tests
  keys_passed = unmet_left (key_tests k) (class_tests e x k s) pair_passed

  pub classes_passed : Unmet (class_tests e x k s)
  unfolding pair_tests
  classes_passed = unmet_right (key_tests k) (class_tests e x k s) pair_passed

  pub class_passed : other_class k s ≡ false
  unfolding class_tests
  class_passed = unmet_first classes_passed

module _ (e : Edition) (x : Ciphers) (k : Keys) (s : List ℕ) (g : Fits e x k s) where
  pub rules : Rules e s
  rules = fit_rules e s g.fits

  pub sheet_passed : (i : ℕ) → i < slots s → Unmet (sheet_tests e x k s i)
  unfolding sheet_tests
  sheet_passed i h = next (ap not g.fits) (unmet_append (classes_passed e x k s g.passes) (next (lt-leb (slots s) i h) end))

  pub last_small : last_write s ≤ 4294967295
  unfolding last_write
  last_small = let h : 4 + 4 ≤ length s = omega (arith, rules.long) in omega (arith, number_part_lt s 4 4 h g.bytes)

  read_passed : (i : ℕ) (window : List ℕ) → i < slots s → length window ≡ 192 → Unmet (window_tests e x k s i (length window))
  unfolding window_tests
  read_passed i window h l = unmet_append (keys_passed e x k s g.passes) (next (ap not (eq-eqb (length window) 192 l)) (sheet_passed i h))

  -- a blank slot
  pub blank_read : (i : ℕ) (window : List ℕ) → i < slots s → length window ≡ 192 → blank_slot e s i ≡ true → reading_with e x k s i window ≡ shown blank
  unfolding reading_with read_tests open_tests window_tests key_tests sheet_tests class_tests shown
  blank_read i window h l b =
      decided_past (window_tests e x k s i (length window)) _ _ _ _ (read_passed i window h l)
      (unfold decided in rw (b, l))

-- ---- the tests of a pair look at bytes of the header that a call keeps

module _ (e : Edition) (reg : Regular e) (x : Ciphers) (k : Keys) (s s' : List ℕ) (h : SameHeader e.header s s') where
  mark_kept : other_keys x e s ≡ other_keys x e s'
  unfolding other_keys mark_for serial stored_mark
  mark_kept = go e.keyed refl
    where
      go : (b : Bool) → e.keyed ≡ b → b && not (same (mark_for x s) (stored_mark s)) ≡ b && not (same (mark_for x s') (stored_mark s'))
      go false q = refl
      go true q =
          let l : 16 ≤ e.header = reg.keyed_size q in
          unfold mark_for serial stored_mark in rw (slots_kept h, key_class_kept h, h.high 8 2 (omega arith) (omega arith), h.high 10 6 (omega arith) (omega arith))

  pub pair_kept : pair_tests e x k s ≡ pair_tests e x k s'
  unfolding pair_tests class_tests other_class
  pair_kept = rw (key_class_kept h, mark_kept)

-- ---- a slot stored

module _ (e : Edition) (reg : Regular e) (x : Ciphers) (k : Keys) (s : List ℕ) (g : Fits e x k s) where
  module _ (j w : ℕ) (m f s' : List ℕ) (st : Stored e j w m f s s') where
    stored_fits : Bytes s' → last_write s ≤ w → slot_fits w m f ≡ true → Fits e x k s'
    stored_fits b grows h =
        record {
          bytes = b;
          fits = rules_fit e s' (stored_rules e reg j w m f s s' (rules e x k s g) st grows h);
          passes = rw (← pair_kept e reg x k s s' st.header) g.passes;
        }

    stored_others : Fits e x k s' → (i : ℕ) → i < slots s → i ≢ j → (window : List ℕ) → length window ≡ 192
        → reading_with e x k s' i window ≡ reading_with e x k s i window
    unfolding reading_with read_tests open_tests window_tests key_tests sheet_tests class_tests
    stored_others g' i h d window l =
        decided_past_both (window_tests e x k s' i (length window)) (window_tests e x k s i (length window)) _ _ _ _ _ _
        (read_passed e x k s' g' i window (omega (arith, slots_kept st.header)) l) (read_passed e x k s g i window h l)
        (unfold blank_slot altered change opened in rw (st.mark_other i h d, st.field_other i h d, reg.tail_kept s s' st.header))

  -- a clear
  pub clear_effect : (j : ℕ) → j < slots s → Effect e x k j (last_write s) blank s (cleared e s j)
  unfolding cleared blank_slot
  clear_effect j h =
      record {
        fits = g';
        header = st.header;
        last = st.last;
        at = λ window l. blank_read e x k s' g' j window (omega (arith, slots_kept st.header)) l (rw (st.mark_at_lem, st.field_at_lem) zeros_blank);
        others = stored_others j (last_write s) (zeros 16) (zeros 192) s' st g';
      }
    where
      s' : List ℕ
      s' = store_slot e s j (zeros 16) (zeros 192)

      st : Stored e j (last_write s) (zeros 16) (zeros 192) s s'
      st = store_slot_lem e s reg.header_size (rules e x k s g).size j (zeros 16) (zeros 192) h (length_zeros 16) (length_zeros 192)

      g' : Fits e x k s'
      g' = stored_fits j (last_write s) (zeros 16) (zeros 192) s' st (store_slot_bytes e j g.bytes (zeros_bytes 16) (zeros_bytes 192)) (le_refl (last_write s)) (zeros_fit (last_write s))

-- ---- a slot written

-- a slot that holds number w and the caption c, as a write stores them, reads as that caption
module _ (e : Edition) (x : Ciphers) (k : Keys) (s : List ℕ) (g : Fits e x k s) (ok : Sound x) (w j : ℕ) (c : List ℕ) (h : j < slots s) (short : length c ≤ 192) (bc : Bytes c)
    (positive : 1 ≤ w) (small : w < 256 ^ 4) (sealed : field e s j ≡ sealed_field x (e.tail s) w j c) (marked : mark e s j ≡ slot_mark x w j c (field e s j)) where
  field_bytes : Bytes (field e s j)
  field_bytes = rw sealed (sealed_blocks x ok (e.tail s) w j c short bc).bytes

  field_opened : opened_field x (e.tail s) w j (field e s j) ≡ padded c
  field_opened = rw sealed (opened_sealed x ok (e.tail s) w j c short bc)

  pub held_read : (window : List ℕ) → length window ≡ 192 → reading_with e x k s j window ≡ shown (holds c)
  unfolding reading_with read_tests open_tests window_tests key_tests sheet_tests class_tests shown
  held_read window l =
      decided_past (window_tests e x k s j (length window)) _ _ _ _ (read_passed e x k s g j window h l)
      (unfold decided blank_slot altered opened in rw (
        marked,
        slot_mark_not_blank x ok w j c (field e s j) short field_bytes small positive,
        slot_mark_number x ok w j c (field e s j) short field_bytes small,
        slot_mark_length x ok w j c (field e s j) short field_bytes small,
        slot_mark_check x ok w j c (field e s j) short field_bytes small,
        same_self (check_of x w j (length c) (field e s j)),
        field_opened,
        padded_rest c,
      ))

-- the number is the last write number, or a later one
pub stored_effect : (e : Edition) → Regular e → (x : Ciphers) (k : Keys) (s : List ℕ) → Fits e x k s → Sound x → (w j : ℕ) (c : List ℕ)
    → j < slots s → length c ≤ 192 → Bytes c → 1 ≤ w → last_write s ≤ w → w < 256 ^ 4 → Effect e x k j w (holds c) s (stored_as x e s w j c)
unfolding stored_as
stored_effect e reg x k s g ok w j c h short bc positive grows small =
    record {
      fits = g';
      header = st.header;
      last = st.last;
      at = held_read e x k s' g' ok w j c (omega (arith, slots_kept st.header)) short bc positive small
          (st.field_at_lem ∙ ap (λ (tail : ℕ). sealed_field x tail w j c) (reg.tail_kept s s' st.header)) (st.mark_at_lem ∙ ap (slot_mark x w j c) (sym st.field_at_lem));
      others = stored_others e reg x k s g j w m f s' st g';
    }
  where
    f : List ℕ
    f = sealed_field x (e.tail s) w j c

    m : List ℕ
    m = slot_mark x w j c f

    s' : List ℕ
    s' = store_last (store_slot e s j m f) w

    blocks : ByteBlocks 24 f
    blocks = sealed_blocks x ok (e.tail s) w j c short bc

    b : Bytes f
    b = blocks.bytes

    st : Stored e j w m f s s'
    st =
        store_last_lem e s reg.header_size (rules e x k s g).size j (last_write s) w m f (store_slot e s j m f)
        (store_slot_lem e s reg.header_size (rules e x k s g).size j m f h (slot_mark_block x ok w j c f short b small).size blocks.size)
        small

    g' : Fits e x k s'
    g' =
        stored_fits e reg x k s g j w m f s' st (store_last_bytes w (store_slot_bytes e j g.bytes (slot_mark_block x ok w j c f short b small).bytes b)) grows
        (slot_mark_fits x ok w j c f short b small positive)

pub write_effect : (e : Edition) → Regular e → (x : Ciphers) (k : Keys) (s : List ℕ) → Fits e x k s → Sound x → (j : ℕ) (c : List ℕ)
    → j < slots s → length c ≤ 192 → Bytes c → last_write s < 4294967295 → Effect e x k j (last_write s + 1) (holds c) s (written x e s j c)
unfolding written
write_effect e reg x k s g ok j c h short bc more =
    stored_effect e reg x k s g ok (last_write s + 1) j c h short bc (omega arith) (omega arith) (omega arith)
