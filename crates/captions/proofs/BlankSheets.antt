-- Blank sheets: a header and zeros are one in any edition, and there are no others; the headers of editions 1, 2 and 3.
use Prim.Native.Nat.{ℕ, zero, suc, ◌+◌, ◌*◌, ◌≤◌, ◌<◌}
use mathlib.Core.Path.{◌≡◌, refl, sym, ap, ap₂, ◌∙◌}
use mathlib.Core.Bool.{true}
use mathlib.Core.List.{List, ◌++◌}
use native.Mathlib.Nat.{mul-zero, mul-suc, zero-add}
use native.Mathlib.Omega.{arith}
use lib.Dec.{eqb}
use lib.ListN.{length, length-append}
use borrow.Author.Tests.{eqb-true}
use Rattle.octets.specs.Bytes.{Bytes, be, number, zeros, part, all_zero}
use Rattle.octets.proofs.Bool.{and_left, and_right}
use Rattle.octets.proofs.EveryByte.{append_bytes}
use Rattle.octets.proofs.Numbers.{length_be, be_bytes, number_be, number_part_lt}
use Rattle.octets.proofs.Parts.{length_part, part_add, part_all, part_append_left, part_append_right, part_append_head, part_append_tail}
use Rattle.octets.proofs.Zeros.{length_zeros, zeros_bytes, zeros_append, part_zeros, all_zero_zeros, all_zero_is}
use Rattle.cipher.specs.Key.{mcrypton_class, class_known}
use Rattle.cipher.proofs.Promise.{class_small, mcrypton_known}
use Rattle.layout.specs.Layout.{Edition, edition1, edition2, edition3, rule1, rule2, rule3, slots, key_class, edition_byte, last_write, serial, stored_mark, sheet_size, mark_at, field_at, slot_count, mark, field, blank_slot, fit_slot, fit_in, first_eight, blank_slots, blank_sheet1, serial_header, blank_sheet2, blank_header, blank_sheet}
use Rattle.layout.proofs.Header.{count_high}
use Rattle.layout.proofs.Fits.{Rules, rules_fit, length_mark, length_field}
use Rattle.captions.specs.Claim.{SameHeader, Regular}
use Rattle.captions.proofs.Store.{slots_kept, key_class_kept}
use Rattle.captions.proofs.Editions.{edition1_regular, edition2_regular, edition3_regular}
use Rattle.captions.proofs.Slot.{be_part}

-- ---- a header and slots of zeros, in any edition

module _ (hd : List ℕ) (n : ℕ) where
  header_part : (a k : ℕ) → a + k ≤ length hd → part (blank_slots hd n) a k ≡ part hd a k
  unfolding blank_slots
  header_part a k h = part_append_left hd (zeros (208 * n)) a k h

  rest_zero : (a b k : ℕ) → length hd + b ≡ a → b + k ≤ 208 * n → part (blank_slots hd n) a k ≡ zeros k
  unfolding blank_slots
  rest_zero a b k e h = part_append_right hd (zeros (208 * n)) a b k e ∙ part_zeros (208 * n) b k h

  length_blank : length (blank_slots hd n) ≡ length hd + 208 * n
  unfolding blank_slots
  length_blank = simp (length-append, length_zeros)

  pub bytes_blank : Bytes hd → Bytes (blank_slots hd n)
  unfolding blank_slots
  bytes_blank b = append_bytes b (zeros_bytes (208 * n))

-- hd is a header of e for n slots and keys of class t, and its last write number is 0
record Header (e : Edition) (n t : ℕ) (hd : List ℕ) : Type 0 where
  size : length hd ≡ e.header
  bytes : Bytes hd
  count : slots hd ≡ n
  class : key_class hd ≡ t
  last : last_write hd ≡ 0
  rule : e.rule hd ≡ true

-- what is known of a blank sheet of e with n slots and keys of class t
pub record Made (e : Edition) (n t : ℕ) (s : List ℕ) : Type 0 where
  pub bytes : Bytes s
  pub fits : fit_in e s ≡ true
  pub count : slots s ≡ n
  pub class : key_class s ≡ t
  pub last : last_write s ≡ 0

module _ (e : Edition) (reg : Regular e) (n t : ℕ) (hd : List ℕ) (h : Header e n t hd) where
  eight : 8 ≤ length hd
  eight = omega (arith, h.size, reg.header_size)

  same_header : SameHeader e.header (blank_slots hd n) hd
  same_header =
      record { low = λ a k l. header_part hd n a k (omega (arith, eight)); high = λ a k g l. header_part hd n a k (omega (arith, h.size)) }

  made_slots : slots (blank_slots hd n) ≡ n
  made_slots = slots_kept same_header ∙ h.count

  made_blank : (i : ℕ) → i < n → blank_slot e (blank_slots hd n) i ≡ true
  unfolding blank_slot mark field mark_at field_at
  made_blank i l =
      rw (
        made_slots,
        rest_zero hd n (e.header + 16 * i) (16 * i) 16 (omega (arith, h.size)) (omega arith),
        rest_zero hd n (e.header + 16 * n + 192 * i) (16 * n + 192 * i) 192 (omega (arith, h.size)) (omega arith),
        all_zero_zeros 16,
        all_zero_zeros 192,
      )

  made_fit : slot_count n ≡ true → fit_in e (blank_slots hd n) ≡ true
  unfolding sheet_size fit_slot
  made_fit few =
      rules_fit e (blank_slots hd n)
      (record {
        long = omega (arith, length_blank hd n, eight);
        count = rw made_slots few;
        rule = reg.rule_kept (blank_slots hd n) hd same_header ∙ h.rule;
        size = length_blank hd n ∙ rw (made_slots, h.size);
        slot = λ i l. rw (made_blank i (omega (arith, made_slots)));
      })

  made : slot_count n ≡ true → Made e n t (blank_slots hd n)
  unfolding last_write
  made few =
      record {
        bytes = bytes_blank hd n h.bytes;
        fits = made_fit few;
        count = made_slots;
        class = key_class_kept same_header ∙ h.class;
        last = ap number (header_part hd n 4 4 (omega (arith, eight))) ∙ h.last;
      }

-- parts of k zeros, n times
zero_parts : (s : List ℕ) (a k n : ℕ) → ((i : ℕ) → i < n → part s (a + k * i) k ≡ zeros k) → part s a (k * n) ≡ zeros (k * n)
unfolding zeros
zero_parts s a k zero h = rw mul-zero
zero_parts s a k (suc n) h =
    let q : k * suc n ≡ k * n + k = mul-suc k n in
    rw q (part_add s a (k * n) k ∙ ap₂ (λ (u v : List ℕ). u ++ v) (zero_parts s a k n (λ i l. h i (omega arith))) (h n (omega arith)) ∙ zeros_append (k * n) k)

-- a sheet whose slots are blank
module _ (e : Edition) (s : List ℕ) (r : Rules e s) (blanks : (i : ℕ) → i < slots s → blank_slot e s i ≡ true) where
  mark_zero : (i : ℕ) → i < slots s → part s (e.header + 16 * i) 16 ≡ zeros 16
  unfolding blank_slot mark mark_at
  mark_zero i h = all_zero_is _ (and_left (all_zero (mark e s i)) (all_zero (field e s i)) (blanks i h)) ∙ ap zeros (length_mark e s r i h)

  field_zero : (i : ℕ) → i < slots s → part s (e.header + 16 * slots s + 192 * i) 192 ≡ zeros 192
  unfolding blank_slot field field_at
  field_zero i h = all_zero_is _ (and_right (all_zero (mark e s i)) (all_zero (field e s i)) (blanks i h)) ∙ ap zeros (length_field e s r i h)

  slots_zero : part s e.header (208 * slots s) ≡ zeros (208 * slots s)
  slots_zero =
      let q : 208 * slots s ≡ 16 * slots s + 192 * slots s = omega arith in
      rw q
      (part_add s e.header (16 * slots s) (192 * slots s)
      ∙ ap₂ (λ (u v : List ℕ). u ++ v) (zero_parts s e.header 16 (slots s) mark_zero) (zero_parts s (e.header + 16 * slots s) 192 (slots s) field_zero)
      ∙ zeros_append (16 * slots s) (192 * slots s))

  pub blank_is : s ≡ blank_slots (part s 0 e.header) (slots s)
  unfolding blank_slots sheet_size
  blank_is = sym (part_all s (e.header + 208 * slots s) r.size) ∙ part_add s 0 e.header (208 * slots s) ∙ ap (λ (u : List ℕ). part s 0 e.header ++ u) (rw zero-add slots_zero)

-- ---- bytes 0 to 7 of a header

module _ (v n t : ℕ) where
  eight_length : length (first_eight v n t) ≡ 8
  unfolding first_eight
  eight_length = simp (length-append, length_be)

  eight_bytes : Bytes (first_eight v n t)
  unfolding first_eight
  eight_bytes = append_bytes (be_bytes 2 n) (append_bytes (be_bytes 1 t) (append_bytes (be_bytes 1 v) (be_bytes 4 0)))

  past_slots : (a k : ℕ) → part (first_eight v n t) (2 + a) k ≡ part (be 1 t ++ (be 1 v ++ be 4 0)) a k
  unfolding first_eight
  past_slots a k = part_append_right (be 2 n) _ (2 + a) a k (omega (arith, length_be 2 n))

  past_class : (a k : ℕ) → part (first_eight v n t) (2 + (1 + a)) k ≡ part (be 1 v ++ be 4 0) a k
  past_class a k = past_slots (1 + a) k ∙ part_append_right (be 1 t) _ (1 + a) a k (omega (arith, length_be 1 t))

  eight_slots : n ≤ 256 → number (part (first_eight v n t) 0 2) ≡ n
  unfolding first_eight
  eight_slots h = ap number (part_append_head (be 2 n) _ 2 (length_be 2 n)) ∙ number_be 2 n (omega arith)

  eight_class : t < 256 → number (part (first_eight v n t) 2 1) ≡ t
  eight_class h = ap number (past_slots 0 1 ∙ part_append_head (be 1 t) _ 1 (length_be 1 t)) ∙ number_be 1 t (omega arith)

  eight_edition : v < 256 → number (part (first_eight v n t) 3 1) ≡ v
  eight_edition h = ap number (past_class 0 1 ∙ part_append_head (be 1 v) _ 1 (length_be 1 v)) ∙ number_be 1 v (omega arith)

  eight_last : number (part (first_eight v n t) 4 4) ≡ 0
  eight_last = ap number (past_class 1 4 ∙ part_append_tail (be 1 v) (be 4 0) 1 4 (length_be 1 v) (length_be 4 0)) ∙ number_be 4 0 (omega arith)

-- the bytes of s as numbers
module _ (s : List ℕ) (b : Bytes s) where
  field_is : (a n x : ℕ) → a + n ≤ length s → number (part s a n) ≡ x → part s a n ≡ be n x
  field_is a n x h q = sym (be_part s a n h b) ∙ ap (be n) q

  eight_is : (v : ℕ) → 8 ≤ length s → edition_byte s ≡ v → last_write s ≡ 0 → part s 0 8 ≡ first_eight v (slots s) (key_class s)
  unfolding first_eight slots key_class edition_byte last_write
  eight_is v l e w =
      sym (rw (← field_is 0 2 _ (omega arith) refl, ← field_is 2 1 _ (omega arith) refl, ← field_is 3 1 v (omega arith) e, ← field_is 4 4 0 (omega arith) w, ← part_add s 3 1 4, ← part_add s 2 1 5, ← part_add s 0 2 6))

-- ---- edition 1

pub byte_one : (s : List ℕ) → rule1 s ≡ true → edition_byte s ≡ 1
unfolding rule1
byte_one s h = eqb-true (edition_byte s) 1 (and_right (mcrypton_class (key_class s)) _ h)

module _ (n t : ℕ) (count : slot_count n ≡ true) (class : mcrypton_class t ≡ true) where
  few : n ≤ 256
  few = count_high n count

  small : t < 256
  small = class_small t (mcrypton_known t class)

  header_1 : Header edition1 n t (first_eight 1 n t)
  unfolding rule1 slots key_class edition_byte last_write
  header_1 =
      record {
        size = eight_length 1 n t;
        bytes = eight_bytes 1 n t;
        count = eight_slots 1 n t few;
        class = eight_class 1 n t small;
        last = eight_last 1 n t;
        rule = rw (eight_class 1 n t small, eight_edition 1 n t (omega arith), class);
      }

  pub made_1 : Made edition1 n t (blank_sheet1 n t)
  unfolding blank_sheet1
  made_1 = made edition1 edition1_regular n t (first_eight 1 n t) header_1 count

module _ (s : List ℕ) (b : Bytes s) (r : Rules edition1 s) (unused : last_write s ≡ 0) where
  pub blanked_1 : ((i : ℕ) → i < slots s → blank_slot edition1 s i ≡ true) → s ≡ blank_sheet1 (slots s) (key_class s)
  unfolding blank_sheet1
  blanked_1 blanks = blank_is edition1 s r blanks ∙ ap (λ (u : List ℕ). blank_slots u (slots s)) (eight_is s b 1 r.long (byte_one s r.rule) unused)

-- ---- the header with a serial, of edition v and with the six bytes m

module _ (v n t x : ℕ) (m : List ℕ) (six : length m ≡ 6) where
  head_length : length (serial_header v n t x m) ≡ 16
  unfolding serial_header
  head_length = simp (length-append, length_be, eight_length v n t, six)

  head_bytes : Bytes m → Bytes (serial_header v n t x m)
  unfolding serial_header
  head_bytes b = append_bytes (eight_bytes v n t) (append_bytes (be_bytes 2 x) b)

  head_part : (a k : ℕ) → a + k ≤ 8 → part (serial_header v n t x m) a k ≡ part (first_eight v n t) a k
  unfolding serial_header
  head_part a k h = part_append_left (first_eight v n t) _ a k (omega (arith, eight_length v n t))

  past_eight : (a k : ℕ) → part (serial_header v n t x m) (8 + a) k ≡ part (be 2 x ++ m) a k
  unfolding serial_header
  past_eight a k = part_append_right (first_eight v n t) _ (8 + a) a k (omega (arith, eight_length v n t))

  head_serial : x < 65536 → number (part (serial_header v n t x m) 8 2) ≡ x
  head_serial h = ap number (past_eight 0 2 ∙ part_append_head (be 2 x) m 2 (length_be 2 x)) ∙ number_be 2 x (omega arith)

  head_six : part (serial_header v n t x m) 10 6 ≡ m
  head_six = past_eight 2 6 ∙ part_append_tail (be 2 x) m 2 6 (length_be 2 x) six

  -- the serial and the six bytes of the sheet
  made_serial : x < 65536 → number (part (blank_slots (serial_header v n t x m) n) 8 2) ≡ x
  made_serial h = ap number (header_part (serial_header v n t x m) n 8 2 (omega (arith, head_length))) ∙ head_serial h

  made_six : part (blank_slots (serial_header v n t x m) n) 10 6 ≡ m
  made_six = header_part (serial_header v n t x m) n 10 6 (omega (arith, head_length)) ∙ head_six

  -- an edition with such a header, by its rule
  header_of : (e : Edition) → e.header ≡ 16 → v < 256 → Bytes m → slot_count n ≡ true → class_known t ≡ true
      → (key_class (serial_header v n t x m) ≡ t → edition_byte (serial_header v n t x m) ≡ v → e.rule (serial_header v n t x m) ≡ true)
      → Header e n t (serial_header v n t x m)
  unfolding slots key_class edition_byte last_write
  header_of e size low b count class rule =
      let is : key_class (serial_header v n t x m) ≡ t = ap number (head_part 2 1 (omega arith)) ∙ eight_class v n t (class_small t class) in
      record {
        size = head_length ∙ sym size;
        bytes = head_bytes b;
        count = ap number (head_part 0 2 (omega arith)) ∙ eight_slots v n t (count_high n count);
        class = is;
        last = ap number (head_part 4 4 (omega arith)) ∙ eight_last v n t;
        rule = rule is (ap number (head_part 3 1 (omega arith)) ∙ eight_edition v n t low);
      }

-- a sheet of an edition with such a header
module _ (e : Edition) (sixteen : e.header ≡ 16) (s : List ℕ) (b : Bytes s) (r : Rules e s) (unused : last_write s ≡ 0) where
  long : 16 ≤ length s
  unfolding sheet_size
  long = omega (arith, r.size, sixteen)

  pub serial_below : serial s < 65536
  unfolding serial
  serial_below = number_part_lt s 8 2 (omega (arith, long)) b

  head_is : (v : ℕ) → edition_byte s ≡ v → part s 0 e.header ≡ serial_header v (slots s) (key_class s) (serial s) (part s 10 6)
  unfolding serial_header serial
  head_is v h =
      ap (part s 0) sixteen
      ∙ part_add s 0 8 8
      ∙ ap₂ (λ (u w : List ℕ). u ++ w)
      (eight_is s b v r.long h unused)
      (part_add s 8 2 6 ∙ ap₂ (λ (u w : List ℕ). u ++ w) (field_is s b 8 2 _ (omega (arith, long)) refl) refl)

  blanked : (v : ℕ) → edition_byte s ≡ v → ((i : ℕ) → i < slots s → blank_slot e s i ≡ true)
      → s ≡ blank_slots (serial_header v (slots s) (key_class s) (serial s) (part s 10 6)) (slots s)
  blanked v h blanks = blank_is e s r blanks ∙ ap (λ (u : List ℕ). blank_slots u (slots s)) (head_is v h)

-- ---- edition 2

pub byte_two : (s : List ℕ) → rule2 s ≡ true → edition_byte s ≡ 2
unfolding rule2
byte_two s h = eqb-true (edition_byte s) 2 (and_left (eqb (edition_byte s) 2) _ (and_right (mcrypton_class (key_class s)) _ h))

module _ (n t x : ℕ) where
  pub serial_2 : x < 65536 → serial (blank_sheet2 n t x) ≡ x
  unfolding serial blank_sheet2
  serial_2 = made_serial 2 n t x (zeros 6) (length_zeros 6)

  pub made_2 : slot_count n ≡ true → mcrypton_class t ≡ true → Made edition2 n t (blank_sheet2 n t x)
  unfolding blank_sheet2 rule2
  made_2 count class =
      made edition2 edition2_regular n t (serial_header 2 n t x (zeros 6))
      (header_of 2 n t x (zeros 6) (length_zeros 6) edition2 refl (omega arith) (zeros_bytes 6) count (mcrypton_known t class)
      (λ is edition. rw (is, class, edition, head_six 2 n t x (zeros 6) (length_zeros 6), all_zero_zeros 6))) count

module _ (s : List ℕ) (b : Bytes s) (r : Rules edition2 s) (unused : last_write s ≡ 0) where
  six_is : part s 10 6 ≡ zeros 6
  unfolding rule2
  six_is =
      all_zero_is (part s 10 6) (and_right (eqb (edition_byte s) 2) _ (and_right (mcrypton_class (key_class s)) _ r.rule))
      ∙ ap zeros (length_part s 10 6 (omega (arith, long edition2 refl s b r unused)))

  pub blanked_2 : ((i : ℕ) → i < slots s → blank_slot edition2 s i ≡ true) → s ≡ blank_sheet2 (slots s) (key_class s) (serial s)
  unfolding blank_sheet2
  blanked_2 blanks =
      blanked edition2 refl s b r unused 2 (byte_two s r.rule) blanks
      ∙ ap (λ (m : List ℕ). blank_slots (serial_header 2 (slots s) (key_class s) (serial s) m) (slots s)) six_is

-- ---- edition 3

pub byte_three : (s : List ℕ) → rule3 s ≡ true → edition_byte s ≡ 3
unfolding rule3
byte_three s h = eqb-true (edition_byte s) 3 (and_right (class_known (key_class s)) _ h)

module _ (n t x : ℕ) (m : List ℕ) (six : length m ≡ 6) where
  pub serial_3 : x < 65536 → serial (blank_sheet n t x m) ≡ x
  unfolding serial blank_sheet blank_header
  serial_3 = made_serial 3 n t x m six

  pub mark_3 : stored_mark (blank_sheet n t x m) ≡ m
  unfolding stored_mark blank_sheet blank_header
  mark_3 = made_six 3 n t x m six

  pub made_3 : Bytes m → slot_count n ≡ true → class_known t ≡ true → Made edition3 n t (blank_sheet n t x m)
  unfolding blank_sheet blank_header rule3
  made_3 b count class =
      made edition3 edition3_regular n t (serial_header 3 n t x m)
      (header_of 3 n t x m six edition3 refl (omega arith) b count class (λ is edition. rw (is, class, edition))) count

module _ (s : List ℕ) (b : Bytes s) (r : Rules edition3 s) (unused : last_write s ≡ 0) where
  pub length_mark_3 : length (stored_mark s) ≡ 6
  unfolding stored_mark
  length_mark_3 = length_part s 10 6 (omega (arith, long edition3 refl s b r unused))

  pub blanked_3 : ((i : ℕ) → i < slots s → blank_slot edition3 s i ≡ true) → s ≡ blank_sheet (slots s) (key_class s) (serial s) (stored_mark s)
  unfolding blank_sheet blank_header stored_mark
  blanked_3 blanks = blanked edition3 refl s b r unused 3 (byte_three s r.rule) blanks
