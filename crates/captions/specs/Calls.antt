-- The calls on a sheet: the tests of each in their order, and what it answers and leaves behind.
use Rattle.std.specs.Prelude.{ℕ, Bool, not, ◌&&◌, ◌||◌, List, [], ◌∷◌, ◌++◌, eqb, leb, ltb, length, Ok, Err}
use Rattle.octets.specs.Bytes.{zeros, same}
use Rattle.octets.specs.Outcome.{Row, ◌gives◌, decided}
use Rattle.text.specs.Grammar.{well_formed}
use Rattle.cipher.specs.Key.{class_known, key_bytes, sheet_key_length}
use Rattle.layout.specs.Layout.{Edition, new_edition, edition_of, slots, key_class, last_write, sheet_size, slot_count, mark_length, mark, blank_slot, fit_in, blank_sheet}
use Rattle.faults.specs.Faults.{fault_of}
use Rattle.captions.specs.Answers.{Outcome, outcome}
use Rattle.captions.specs.Captions.{Keys, Ciphers, loaded_for, key_mark, other_keys, written, cleared, opened, altered, change}
use Rattle.captions.specs.declared.Refusal.{Refusal}
use Rattle.captions.specs.declared.Refusal.TheVariants.{WrongKey, TwinKeys, WrongSpan, UnfitSheet, OtherKeyClass, NoSuchSlot, Overlong, Worn, Blank, Altered, OtherKeys, BrokenText}

-- ---- the tests

-- a key isn't 8, 10, 12 or 16 bytes, or the two lengths differ
unfoldable pub wrong_keys : Keys → Bool
wrong_keys k =
    not (sheet_key_length (length k.sealing) && (sheet_key_length (length k.checking) && eqb (length k.sealing) (length k.checking)))

-- key bytes aren't those of the sheet's class
unfoldable pub other_class : Keys → List ℕ → Bool
other_class k s = not (eqb (length k.sealing) (key_bytes (key_class s)))

-- 2
abbrev pub twin_row : Keys → Row Refusal
twin_row k = same k.sealing k.checking gives TwinKeys

-- 1 and 2, of the keys alone
unfoldable pub key_tests : Keys → List (Row Refusal)
key_tests k = (wrong_keys k gives WrongKey) ∷ twin_row k ∷ []

-- 3, of a window of n bytes
abbrev pub span_row : ℕ → Row Refusal
span_row n = not (eqb n 192) gives WrongSpan

-- 4, 5, 14 and 6
abbrev pub unfit_row : Edition → List ℕ → Row Refusal
unfit_row e s = not (fit_in e s) gives UnfitSheet (fault_of s)

abbrev pub class_row : Keys → List ℕ → Row Refusal
class_row k s = other_class k s gives OtherKeyClass

abbrev pub mark_row : Ciphers → Edition → List ℕ → Row Refusal
mark_row x e s = other_keys x e s gives OtherKeys

abbrev pub slot_row : List ℕ → ℕ → Row Refusal
slot_row s i = leb (slots s) i gives NoSuchSlot

-- 7, 15 and 8, of a caption for a sheet
unfoldable pub caption_tests : List ℕ → List ℕ → List (Row Refusal)
caption_tests s c =
    (ltb 192 (length c) gives Overlong)
    ∷ (not (well_formed c) gives BrokenText)
    ∷ (eqb (last_write s) 4294967295 gives Worn)
    ∷ []

-- 9 and 10
abbrev pub blank_row : Edition → List ℕ → ℕ → Row Refusal
blank_row e s i = blank_slot e s i gives Blank

abbrev pub altered_row : Ciphers → Edition → List ℕ → ℕ → Row Refusal
altered_row x e s i = altered x e s i gives Altered i (change x e s i)

-- ---- the tests of each call, in order

module _ (e : Edition) (x : Ciphers) where
  -- what a pair of keys must pass with a fit sheet: 5 14
  unfoldable pub class_tests : Keys → List ℕ → List (Row Refusal)
  class_tests k s = class_row k s ∷ mark_row x e s ∷ []

  -- what a pair of keys must pass: 1 2 5 14
  unfoldable pub pair_tests : Keys → List ℕ → List (Row Refusal)
  pair_tests k s = key_tests k ++ class_tests k s

  -- 4 5 14 6, of the sheet with the keys
  unfoldable pub sheet_tests : Keys → List ℕ → ℕ → List (Row Refusal)
  sheet_tests k s i = unfit_row e s ∷ (class_tests k s ++ (slot_row s i ∷ []))

  -- write: 1 2 4 5 14 6 7 15 8
  unfoldable pub write_tests : Keys → List ℕ → ℕ → List ℕ → List (Row Refusal)
  write_tests k s i c = key_tests k ++ (sheet_tests k s i ++ caption_tests s c)

  -- a read with a window of n bytes, of the sheet: 1 2 3 4 5 14 6
  unfoldable pub window_tests : Keys → List ℕ → ℕ → ℕ → List (Row Refusal)
  window_tests k s i n = key_tests k ++ (span_row n ∷ sheet_tests k s i)

  -- the same, before the slot is opened: 1 2 3 4 5 14 6 9
  unfoldable pub open_tests : Keys → List ℕ → ℕ → ℕ → List (Row Refusal)
  open_tests k s i n = window_tests k s i n ++ (blank_row e s i ∷ [])

  -- read: 1 2 3 4 5 14 6 9 10
  unfoldable pub read_tests : Keys → List ℕ → ℕ → List ℕ → List (Row Refusal)
  read_tests k s i window = open_tests k s i (length window) ++ (altered_row x e s i ∷ [])

-- clear: 4 6
unfoldable pub clear_tests : Edition → List ℕ → ℕ → List (Row Refusal)
clear_tests e s i = unfit_row e s ∷ slot_row s i ∷ []

-- blanking: 1 (keys or t) 2 3 5
unfoldable pub blank_tests : Keys → List ℕ → ℕ → ℕ → List (Row Refusal)
blank_tests k s n t =
    (wrong_keys k || not (class_known t) gives WrongKey)
    ∷ twin_row k
    ∷ (not (slot_count n && eqb (length s) (sheet_size new_edition.header n)) gives WrongSpan)
    ∷ (not (eqb (length k.sealing) (key_bytes t)) gives OtherKeyClass)
    ∷ []

-- ---- the calls, for a given edition and block cipher. A refusal leaves the lent bytes, but a refused read makes its window zero

unfoldable pub writing_with : Edition → Ciphers → Keys → List ℕ → ℕ → List ℕ → Outcome
writing_with e x k s i c = decided (write_tests e x k s i c) (outcome (Ok 0) (written x e s i c)) (λ r. outcome (Err r) s)

unfoldable pub clearing_with : Edition → List ℕ → ℕ → Outcome
clearing_with e s i = decided (clear_tests e s i) (outcome (Ok 0) (cleared e s i)) (λ r. outcome (Err r) s)

unfoldable pub reading_with : Edition → Ciphers → Keys → List ℕ → ℕ → List ℕ → Outcome
reading_with e x k s i window =
    decided (read_tests e x k s i window) (outcome (Ok (mark_length (mark e s i))) (opened x e s i)) (λ r. outcome (Err r) (zeros (length window)))

-- blanking takes the serial v, which no test looks at
unfoldable pub blanking_with : Ciphers → Keys → List ℕ → ℕ → ℕ → ℕ → Outcome
blanking_with x k s n t v = decided (blank_tests k s n t) (outcome (Ok 0) (blank_sheet n t v (key_mark x n t v))) (λ r. outcome (Err r) s)

-- ---- the calls: edition and key class are those of the sheet's own bytes

unfoldable pub writing : Keys → List ℕ → ℕ → List ℕ → Outcome
writing k s i c = writing_with (edition_of s) (loaded_for (key_class s) k) k s i c

unfoldable pub clearing : List ℕ → ℕ → Outcome
clearing s i = clearing_with (edition_of s) s i

unfoldable pub reading : Keys → List ℕ → ℕ → List ℕ → Outcome
reading k s i window = reading_with (edition_of s) (loaded_for (key_class s) k) k s i window

-- blanking loads the keys for the class it is given
unfoldable pub blanking : Keys → List ℕ → ℕ → ℕ → ℕ → Outcome
blanking k s n t v = blanking_with (loaded_for t k) k s n t v
