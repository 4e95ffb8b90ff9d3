-- What the serial is for (document 02, request 3): under one pair of keys of one class, sheets that were blanked with unlike serials share no start block, whatever was written to them.
use Rattle.std.specs.Prelude.{ℕ, ◌^◌, ◌<◌, ◌≡◌, ◌≢◌, true, List}
use Rattle.cipher.specs.Key.{mcrypton_class, class_known}
use Rattle.layout.specs.Layout.{edition_of, key_class, slot_count, fit, blank_sheet1, blank_sheet2, blank_sheet}
use Rattle.captions.specs.Captions.{Keys, key_mark, start_block, sealed_field}
use Rattle.captions.specs.Calls.{blanking}
use Rattle.captions.specs.Runs.{finally}
use Rattle.captions.specs.Model.{Call}
use Rattle.captions.specs.Claim.{Captions}
use Rattle.demands.specs.Ciphers.{by_paths}
use Rattle.demands.specs.Steps.{sheet_step}
use Rattle.demands.specs.Premises.{UnlikeKeys, Premises}

-- the last two bytes, as a number, of the block that is encrypted to make a start block of s
abbrev pub tail_of : List ℕ → ℕ
tail_of s = (edition_of s).tail s

-- the blank sheets of n slots with the serial x that the pair k of class t serves: one of edition 2, where t is a class of mCrypton, and the one of edition 3 that blanking makes with the pair
pub data WithSerial (k : Keys) (t n x : ℕ) : List ℕ → Type 0 where
  second : mcrypton_class t ≡ true → WithSerial k t n x (blank_sheet2 n t x)
  third : WithSerial k t n x (blank_sheet n t x (key_mark (by_paths t 0 0 k) n t x))

-- for one pair k of unlike keys of one class t, sheets of n slots, n from 1 to 256, and lists of writes and clears whose captions are bytes;
-- calls and start blocks encrypt by any path numbers
pub record Serials : Type 0 where
  -- the blank sheet of edition 2 with the serial x is such a sheet, and so is what blanking makes with the pair and the serial x
  pub of_edition_2 : (k : Keys) (t n x : ℕ) → mcrypton_class t ≡ true → WithSerial k t n x (blank_sheet2 n t x)
  pub blanked : (k : Keys) (b : List ℕ) (n t x : ℕ) → (blanking k b n t x).number ≡ 0 → WithSerial k t n x (blanking k b n t x).bytes
  -- the serial that a sheet was blanked with is the one in its start blocks, after every list of calls; in edition 1 it is 0
  pub kept : (p : ℕ) (k : Keys) (t n x : ℕ) (s : List ℕ) (calls : List Call) → class_known t ≡ true → UnlikeKeys t k → slot_count n ≡ true → Captions calls → x < 65536
      → WithSerial k t n x s → tail_of (finally (sheet_step p k) calls s) ≡ x
  pub none_in_1 : (p : ℕ) (k : Keys) (t n : ℕ) (calls : List Call) → mcrypton_class t ≡ true → UnlikeKeys t k → slot_count n ≡ true → Captions calls
      → tail_of (finally (sheet_step p k) calls (blank_sheet1 n t)) ≡ 0
  -- whatever slots and write numbers: no start block of the one sheet is one of the other
  pub apart : (p p' : ℕ) (k : Keys) (t n n' x x' : ℕ) (s s' : List ℕ) (calls calls' : List Call) (w w' i i' : ℕ)
      → class_known t ≡ true → UnlikeKeys t k → slot_count n ≡ true → slot_count n' ≡ true → Captions calls → Captions calls' → x < 65536 → x' < 65536 → x ≢ x'
      → WithSerial k t n x s → WithSerial k t n' x' s'
      → start_block (by_paths t p p k) (tail_of (finally (sheet_step p k) calls s)) w i
      ≢ start_block (by_paths t p' p' k) (tail_of (finally (sheet_step p' k) calls' s')) w' i'
  -- nor, with a serial that isn't 0, one of a sheet of edition 1
  pub apart_from_1 : (p p' : ℕ) (k : Keys) (t n n' x : ℕ) (s : List ℕ) (calls calls' : List Call) (w w' i i' : ℕ)
      → mcrypton_class t ≡ true → UnlikeKeys t k → slot_count n ≡ true → slot_count n' ≡ true → Captions calls → Captions calls' → x < 65536 → x ≢ 0
      → WithSerial k t n x s
      → start_block (by_paths t p p k) (tail_of (finally (sheet_step p k) calls s)) w i
      ≢ start_block (by_paths t p' p' k) (tail_of (finally (sheet_step p' k) calls' (blank_sheet1 n' t))) w' i'
  -- within one sheet, of any edition and whatever it holds, equal start blocks are of one write number and one slot
  pub once : (p p' : ℕ) (k : Keys) (s : List ℕ) (w w' i i' : ℕ)
      → fit s ≡ true → UnlikeKeys (key_class s) k → w < 2 ^ 32 → w' < 2 ^ 32 → i < 2 ^ 16 → i' < 2 ^ 16
      → start_block (by_paths (key_class s) p p k) (tail_of s) w i ≡ start_block (by_paths (key_class s) p' p' k) (tail_of s) w' i'
      → (w ≡ w') × (i ≡ i')
  -- with serial 0 the sealed field is edition 1's
  pub serial_0 : (p p' : ℕ) (k : Keys) (t n n' : ℕ) (s : List ℕ) (calls calls' : List Call) (w i : ℕ) (c : List ℕ)
      → mcrypton_class t ≡ true → UnlikeKeys t k → slot_count n ≡ true → slot_count n' ≡ true → Captions calls → Captions calls'
      → WithSerial k t n 0 s
      → sealed_field (by_paths t p p k) (tail_of (finally (sheet_step p k) calls s)) w i c
      ≡ sealed_field (by_paths t p' p' k) (tail_of (finally (sheet_step p' k) calls' (blank_sheet1 n' t))) w i c
  -- the premises are those of demand 3, where they are met and pinned
  pub premises : Premises
