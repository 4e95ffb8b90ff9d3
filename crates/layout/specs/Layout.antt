-- The layout of a sheet (document 01, "The sheet", and document 02, requests 3, 7 and 10): a header, then n marks of 16 bytes, then n sealed fields of 192 bytes.
use Rattle.std.specs.Prelude.{ℕ, ◌+◌, ◌*◌, Bool, true, false, ◌&&◌, ◌||◌, List, ◌++◌, eqb, leb, length}
use Rattle.octets.specs.Bytes.{if◌then◌otherwise◌, be, number, zeros, part, put, all_zero, all_below}
use Rattle.cipher.specs.Key.{mcrypton_class, class_known}

-- ---- the header's fields

-- bytes 0 and 1: n, the count of slots
unfoldable pub slots : List ℕ → ℕ
slots s = number (part s 0 2)

-- byte 2: t, which is the class of the sheet's keys
unfoldable pub key_class : List ℕ → ℕ
key_class s = number (part s 2 1)

-- byte 3
unfoldable pub edition_byte : List ℕ → ℕ
edition_byte s = number (part s 3 1)

-- bytes 4 to 7: w, the last write number
unfoldable pub last_write : List ℕ → ℕ
last_write s = number (part s 4 4)

-- bytes 8 and 9 from edition 2 on: the serial, chosen at blanking
unfoldable pub serial : List ℕ → ℕ
serial s = number (part s 8 2)

-- bytes 10 to 15 in edition 3: the key mark, made at blanking
unfoldable pub stored_mark : List ℕ → List ℕ
stored_mark s = part s 10 6

-- what an edition settles
pub record Edition : Type 0 where
  -- the size of its header
  pub header : ℕ
  -- the classes that byte 2 may name
  pub classes : ℕ → Bool
  -- its rule on the header's bytes other than n and w
  pub rule : List ℕ → Bool
  -- the last two bytes, as a number, of the block that is encrypted to make a start block
  pub tail : List ℕ → ℕ
  -- whether its sheets have a key mark
  pub keyed : Bool

-- t is 4, 6 or 8, and the edition 1
unfoldable pub rule1 : List ℕ → Bool
rule1 s = mcrypton_class (key_class s) && eqb (edition_byte s) 1

abbrev pub edition1 : Edition
edition1 = record { header = 8; classes = mcrypton_class; rule = rule1; tail = λ s. 0; keyed = false }

-- t is 4, 6 or 8, the edition 2, and six zero bytes come after the serial
unfoldable pub rule2 : List ℕ → Bool
rule2 s = mcrypton_class (key_class s) && (eqb (edition_byte s) 2 && all_zero (part s 10 6))

-- the serial stands where edition 1 has two zero bytes in the block that is encrypted to make a start block
abbrev pub edition2 : Edition
edition2 = record { header = 16; classes = mcrypton_class; rule = rule2; tail = serial; keyed = false }

-- t is 4, 6 or 8, or 21 or 24 for PRESENT, and the edition 3: the key mark has no rule
unfoldable pub rule3 : List ℕ → Bool
rule3 s = class_known (key_class s) && eqb (edition_byte s) 3

-- the six zero bytes of edition 2 are a key mark
abbrev pub edition3 : Edition
edition3 = record { header = 16; classes = class_known; rule = rule3; tail = serial; keyed = true }

-- the edition of a sheet: 2 in byte 3 is edition 2, 3 is edition 3, and any other value is held to edition 1's rule, which 1 alone passes
unfoldable pub edition_of : List ℕ → Edition
edition_of s = if eqb (edition_byte s) 2 then edition2 otherwise if eqb (edition_byte s) 3 then edition3 otherwise edition1

-- the edition that blanking makes
abbrev pub new_edition : Edition
new_edition = edition3

-- ---- marks and fields

-- a mark: write number (4 bytes), caption length (2), two zero bytes, check (8)
unfoldable pub mark_number : List ℕ → ℕ
mark_number m = number (part m 0 4)

unfoldable pub mark_length : List ℕ → ℕ
mark_length m = number (part m 4 2)

unfoldable pub mark_check : List ℕ → List ℕ
mark_check m = part m 8 8

-- the mark of a written slot, where w is the last write number
unfoldable pub written_mark : ℕ → List ℕ → Bool
written_mark w m = leb 1 (mark_number m) && (leb (mark_number m) w && (leb (mark_length m) 192 && all_zero (part m 6 2)))

-- sizes and places, with the size h of the header as a given
unfoldable pub sheet_size : ℕ → ℕ → ℕ
sheet_size h n = h + 208 * n

unfoldable pub mark_at : ℕ → ℕ → ℕ
mark_at h i = h + 16 * i

unfoldable pub field_at : ℕ → ℕ → ℕ → ℕ
field_at h n i = h + 16 * n + 192 * i

-- n from 1 to 256
unfoldable pub slot_count : ℕ → Bool
slot_count n = leb 1 n && leb n 256

module _ (e : Edition) where
  -- the mark and the sealed field of slot i
  unfoldable pub mark : List ℕ → ℕ → List ℕ
  mark s i = part s (mark_at e.header i) 16

  unfoldable pub field : List ℕ → ℕ → List ℕ
  field s i = part s (field_at e.header (slots s) i) 192

  -- a blank slot has all 208 bytes zero
  unfoldable pub blank_slot : List ℕ → ℕ → Bool
  blank_slot s i = all_zero (mark s i) && all_zero (field s i)

  -- every slot is one or the other
  unfoldable pub fit_slot : List ℕ → ℕ → Bool
  fit_slot s i = blank_slot s i || written_mark (last_write s) (mark s i)

  -- the sheet meets the layout: the header by its lowest byte, the length, then slot by slot
  unfoldable pub fit_in : List ℕ → Bool
  fit_in s =
      leb 8 (length s)
      && (slot_count (slots s)
      && (e.rule s
      && (eqb (length s) (sheet_size e.header (slots s))
      && all_below (slots s) (fit_slot s))))

  -- the sheet with the 208 bytes of slot i stored
  unfoldable pub store_slot : List ℕ → ℕ → List ℕ → List ℕ → List ℕ
  store_slot s i m f = put (put s (field_at e.header (slots s) i) f) (mark_at e.header i) m

unfoldable pub fit : List ℕ → Bool
fit s = fit_in (edition_of s) s

-- the sheet with the last write number w
unfoldable pub store_last : List ℕ → ℕ → List ℕ
store_last s w = put s 4 (be 4 w)

-- ---- blank sheets

-- bytes 0 to 7 of a header: n, t, the edition v and w = 0
unfoldable pub first_eight : ℕ → ℕ → ℕ → List ℕ
first_eight v n t = be 2 n ++ (be 1 t ++ (be 1 v ++ be 4 0))

-- a header, and n slots of zeros
unfoldable pub blank_slots : List ℕ → ℕ → List ℕ
blank_slots header n = header ++ zeros (208 * n)

-- a blank sheet of edition 1
unfoldable pub blank_sheet1 : ℕ → ℕ → List ℕ
blank_sheet1 n t = blank_slots (first_eight 1 n t) n

-- bytes 0 to 15 of a header: those of the edition v, the serial x and the six bytes m
unfoldable pub serial_header : ℕ → ℕ → ℕ → ℕ → List ℕ → List ℕ
serial_header v n t x m = first_eight v n t ++ (be 2 x ++ m)

-- a blank sheet of edition 2, with the serial x
unfoldable pub blank_sheet2 : ℕ → ℕ → ℕ → List ℕ
blank_sheet2 n t x = blank_slots (serial_header 2 n t x (zeros 6)) n

-- blanking stores n, t, edition 3, w = 0, the serial x, the key mark m and zeros
unfoldable pub blank_header : ℕ → ℕ → ℕ → List ℕ → List ℕ
blank_header n t x m = serial_header 3 n t x m

unfoldable pub blank_sheet : ℕ → ℕ → ℕ → List ℕ → List ℕ
blank_sheet n t x m = blank_slots (blank_header n t x m) n
