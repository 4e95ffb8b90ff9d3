-- How long a listing is: 10553 bytes hold that of every sheet, so that an output of that size always gets the whole of it.
use Prim.Native.Nat.{ℕ, zero, suc, ◌*◌, ◌≤◌, ◌<◌}
use mathlib.Core.Path.{◌≡◌, refl}
use mathlib.Core.Bool.{Bool, true, false}
use mathlib.Core.List.{List, ◌++◌}
use native.Mathlib.Omega.{arith}
use borrow.Author.Tests.{le-leb}
use lib.Dec.{eqb, leb}
use lib.ListN.{length, length-append}
use Rattle.octets.specs.Bytes.{if◌then◌otherwise◌, Bytes, put}
use Rattle.octets.proofs.Bool.{and_right}
use Rattle.cipher.specs.Key.{key_bytes}
use Rattle.layout.specs.Layout.{slots, key_class, last_write, edition_of, mark_number, mark_length, mark, blank_slot, fit}
use Rattle.layout.proofs.Header.{last_below}
use Rattle.layout.proofs.Fits.{Fits, fit_facts, fits_few, fits_class_small, not_blank_written, Written, mark_written}
use Rattle.listing.specs.Listing.{line, head_line, blank_line, written_line, slot_line, slot_lines, key_bits, listable, listing, listed}
use Rattle.listing.proofs.Decimal.{length_decimal}

-- the bytes of a key, of whatever class a byte names
pub key_bytes_small : (t : ℕ) {r : ℕ} → r ≡ key_bytes t → t < 256 → r < 512
unfolding key_bytes
key_bytes_small t e h = rw e (go (eqb t 21) (eqb t 24))
  where
    go : (a b : Bool) → (if a then 10 otherwise if b then 16 otherwise 2 * t) < 512
    go true b = omega arith
    go false true = omega arith
    go false false = omega arith

abbrev Short : ℕ → Type 0
Short n = n < 10000000000

length_head : (n bits last : ℕ) → Short n → Short bits → Short last → length (head_line n bits last) ≤ 57
unfolding head_line line
length_head n bits last h g f = simp length-append (omega (arith, length_decimal 9 n h, length_decimal 9 bits g, length_decimal 9 last f))

length_blank : (i : ℕ) → Short i → length (blank_line i) ≤ 41
unfolding blank_line line
length_blank i h = simp length-append (omega (arith, length_decimal 9 i h))

length_written : (i number len : ℕ) → Short i → Short number → Short len → length (written_line i number len) ≤ 41
unfolding written_line line
length_written i number len h g f = simp length-append (omega (arith, length_decimal 9 i h, length_decimal 9 number g, length_decimal 9 len f))

module _ (s : List ℕ) (b : Bytes s) where
  module _ (f : Fits s) where
    length_slot : (i : ℕ) → i < slots s → (t : Bool) → blank_slot (edition_of s) s i ≡ t → length (slot_line s i) ≤ 41
    unfolding slot_line
    length_slot i l true e = rw e (length_blank i (omega (arith, fits_few (edition_of s) s f)))
    length_slot i l false e =
        let w : Written (last_write s) (mark (edition_of s) s i) = mark_written (last_write s) (mark (edition_of s) s i) (not_blank_written (edition_of s) s f i l e) in
        rw e (length_written i (mark_number (mark (edition_of s) s i)) (mark_length (mark (edition_of s) s i)) (omega (arith, fits_few (edition_of s) s f)) (omega (arith, w.at_most, last_below s b f.long)) (omega (arith, w.short)))

    length_slots : (n : ℕ) → n ≤ slots s → length (slot_lines s n) ≤ 41 * n
    unfolding slot_lines
    length_slots zero h = omega arith
    length_slots (suc n) h = rw length-append (omega (arith, length_slots n (omega arith), length_slot n (omega arith) (blank_slot (edition_of s) s n) refl))

    length_lines : length (head_line (slots s) (key_bits s) (last_write s) ++ slot_lines s (slots s)) ≤ 10553
    unfolding key_bits
    length_lines =
        rw length-append
        (omega (
          arith,
          fits_few (edition_of s) s f,
          length_slots (slots s) (omega arith),
          length_head (slots s) (key_bits s) (last_write s) (omega (arith, fits_few (edition_of s) s f)) (omega (arith, key_bytes_small (key_class s) refl (fits_class_small s f))) (omega (arith, last_below s b f.long)),
        ))

  length_chosen : (t : Bool) → listable s ≡ t → length (listing s) ≤ 10553
  unfolding listing listable line
  length_chosen true e = rw e (length_lines (fit_facts s (and_right (leb (length s) 53264) (fit s) e)))
  length_chosen false e = rw e (omega arith)

  pub length_listing : length (listing s) ≤ 10553
  length_listing = length_chosen (listable s) refl

  pub listed_whole : (out : List ℕ) → 10553 ≤ length out → listed s out ≡ (length (listing s), put out 0 (listing s))
  unfolding listed
  listed_whole out h = rw (le-leb (length (listing s)) (length out) (omega (arith, length_listing)))
