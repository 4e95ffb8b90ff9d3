-- Demand 1, of the calls on a sheet: what each refusal means, which number a call answers, and what a refused one leaves.
use Rattle.std.specs.Prelude.{ℕ, ◌+◌, ◌*◌, ◌≤◌, ◌<◌, ◌≡◌, List, [], ◌∷◌, length, get_or}
use Rattle.octets.specs.Bytes.{zeros}
use Rattle.octets.specs.Clauses.{Clause, ◌when◌, Exactly, OneOf, Each}
use Rattle.text.specs.Grammar.{Utf8}
use Rattle.layout.specs.Layout.{Edition, edition_of, slots, key_class, edition_byte, last_write, stored_mark, mark_number, mark_length, mark_check, mark, field, blank_sheet}
use Rattle.layout.specs.Rules.{Classes, KeyFits, IsBlank, MeetsLayout}
use Rattle.captions.specs.Answers.{Outcome}
use Rattle.captions.specs.Captions.{Keys, Ciphers, loaded_for, key_mark, mark_for, check_of, opened}
use Rattle.captions.specs.Calls.{writing, clearing, reading, blanking}

-- ---- what the refusals speak of

-- two keys of 8, 10, 12 or 16 bytes, both of as many (else 1)
abbrev pub RightKeys : Keys → Type 0
RightKeys k = OneOf (8 ∷ 10 ∷ 12 ∷ 16 ∷ []) (length k.sealing) × (length k.checking ≡ length k.sealing)

-- keys and a t that blanking takes: 4, 6, 8, 21 or 24 (else 1)
abbrev pub RightClass : Keys → ℕ → Type 0
RightClass k t = RightKeys k × Classes t

-- n from 1 to 256 and a buffer of the size of a new sheet of n slots (else 3)
abbrev pub BlankSpan : List ℕ → ℕ → Type 0
BlankSpan s n = (1 ≤ n) × (n ≤ 256) × (length s ≡ 16 + 208 * n)

-- the sheet is of edition 3, and its key mark isn't that of the keys (14)
pub record OtherMark (x : Ciphers) (s : List ℕ) : Type 0 where
  pub edition : edition_byte s ≡ 3
  pub differs : mark_for x s ≡ stored_mark s → ⊥

-- the check differs, or an opened byte at or past the length isn't zero (10)
pub data IsAltered (x : Ciphers) (e : Edition) (s : List ℕ) (i : ℕ) : Type 0 where
  check_differs : (check_of x (mark_number (mark e s i)) i (mark_length (mark e s i)) (field e s i) ≡ mark_check (mark e s i) → ⊥) → IsAltered x e s i
  byte_left : (j : ℕ) → mark_length (mark e s i) ≤ j → (get_or (opened x e s i) j 0 ≡ 0 → ⊥) → IsAltered x e s i

-- ---- the clauses of each call, in the order of its tests

unfoldable pub write_clauses : Keys → List ℕ → ℕ → List ℕ → List Clause
write_clauses k s i c =
    (1 when (RightKeys k → ⊥))
    ∷ (2 when (k.sealing ≡ k.checking))
    ∷ (4 when (MeetsLayout s → ⊥))
    ∷ (5 when (KeyFits (length k.sealing) (key_class s) → ⊥))
    ∷ (14 when OtherMark (loaded_for (key_class s) k) s)
    ∷ (6 when (slots s ≤ i))
    ∷ (7 when (192 < length c))
    ∷ (15 when (Utf8 c → ⊥))
    ∷ (8 when (last_write s ≡ 4294967295))
    ∷ []

unfoldable pub clear_clauses : List ℕ → ℕ → List Clause
clear_clauses s i =
    (4 when (MeetsLayout s → ⊥))
    ∷ (6 when (slots s ≤ i))
    ∷ []

unfoldable pub read_clauses : Keys → List ℕ → ℕ → List ℕ → List Clause
read_clauses k s i window =
    (1 when (RightKeys k → ⊥))
    ∷ (2 when (k.sealing ≡ k.checking))
    ∷ (3 when (length window ≡ 192 → ⊥))
    ∷ (4 when (MeetsLayout s → ⊥))
    ∷ (5 when (KeyFits (length k.sealing) (key_class s) → ⊥))
    ∷ (14 when OtherMark (loaded_for (key_class s) k) s)
    ∷ (6 when (slots s ≤ i))
    ∷ (9 when IsBlank (edition_of s) s i)
    ∷ (10 when IsAltered (loaded_for (key_class s) k) (edition_of s) s i)
    ∷ []

unfoldable pub blank_clauses : Keys → List ℕ → ℕ → ℕ → List Clause
blank_clauses k s n t =
    (1 when (RightClass k t → ⊥))
    ∷ (2 when (k.sealing ≡ k.checking))
    ∷ (3 when (BlankSpan s n → ⊥))
    ∷ (5 when (KeyFits (length k.sealing) t → ⊥))
    ∷ []

-- ---- what a call leaves: length 0 and these bytes

pub record Leaves (o : Outcome) (bytes : List ℕ) : Type 0 where
  pub len : o.len ≡ 0
  pub bytes_are : o.bytes ≡ bytes

-- ---- calls that answer n

pub record WriteOf (n : ℕ) : Type 0 where
  pub keys : Keys
  pub sheet : List ℕ
  pub slot : ℕ
  pub caption : List ℕ
  pub answers : (writing keys sheet slot caption).number ≡ n

pub record ClearOf (n : ℕ) : Type 0 where
  pub sheet : List ℕ
  pub slot : ℕ
  pub answers : (clearing sheet slot).number ≡ n

pub record ReadOf (n : ℕ) : Type 0 where
  pub keys : Keys
  pub sheet : List ℕ
  pub slot : ℕ
  pub window : List ℕ
  pub answers : (reading keys sheet slot window).number ≡ n

pub record BlankOf (n : ℕ) : Type 0 where
  pub keys : Keys
  pub sheet : List ℕ
  pub count : ℕ
  pub class : ℕ
  pub serial : ℕ
  pub answers : (blanking keys sheet count class serial).number ≡ n

-- ---- the statement

pub record SheetRefusals : Type 0 where
  -- a call answers a number exactly if its proposition holds and no earlier one does, and 0 exactly if none holds
  pub write : (k : Keys) (s : List ℕ) (i : ℕ) (c : List ℕ) → Exactly (writing k s i c).number (write_clauses k s i c)
  pub clear : (s : List ℕ) (i : ℕ) → Exactly (clearing s i).number (clear_clauses s i)
  pub read : (k : Keys) (s : List ℕ) (i : ℕ) (window : List ℕ) → Exactly (reading k s i window).number (read_clauses k s i window)
  pub blank : (k : Keys) (s : List ℕ) (n t v : ℕ) → Exactly (blanking k s n t v).number (blank_clauses k s n t)
  -- a refusal changes nothing; a refused read zeroes its window, whatever its length
  pub refused_write : (k : Keys) (s : List ℕ) (i : ℕ) (c : List ℕ) → ((writing k s i c).number ≡ 0 → ⊥) → Leaves (writing k s i c) s
  pub refused_clear : (s : List ℕ) (i : ℕ) → ((clearing s i).number ≡ 0 → ⊥) → Leaves (clearing s i) s
  pub refused_read : (k : Keys) (s : List ℕ) (i : ℕ) (window : List ℕ) → ((reading k s i window).number ≡ 0 → ⊥)
      → Leaves (reading k s i window) (zeros (length window))
  pub refused_blank : (k : Keys) (s : List ℕ) (n t v : ℕ) → ((blanking k s n t v).number ≡ 0 → ⊥) → Leaves (blanking k s n t v) s
  -- an accepted blanking leaves the blank sheet with the key mark; what an accepted write, clear and read leave is demand 2
  pub accepted_blank : (k : Keys) (s : List ℕ) (n t v : ℕ) → (blanking k s n t v).number ≡ 0 → Leaves (blanking k s n t v) (blank_sheet n t v (key_mark (loaded_for t k) n t v))
  -- an accepted read answers the length that the mark stores, and an accepted write and clear answer 0
  pub accepted_read : (k : Keys) (s : List ℕ) (i : ℕ) (window : List ℕ) → (reading k s i window).number ≡ 0 → (reading k s i window).len ≡ mark_length (mark (edition_of s) s i)
  pub accepted_write : (k : Keys) (s : List ℕ) (i : ℕ) (c : List ℕ) → (writing k s i c).number ≡ 0 → (writing k s i c).len ≡ 0
  pub accepted_clear : (s : List ℕ) (i : ℕ) → (clearing s i).number ≡ 0 → (clearing s i).len ≡ 0
  -- each number that rests on no cipher, and 14, is met here; whole calls, an accepted read and those that answer 10 among them, are in crates/exhibits
  pub writes : Each WriteOf (0 ∷ 1 ∷ 2 ∷ 4 ∷ 5 ∷ 14 ∷ 6 ∷ 7 ∷ 15 ∷ 8 ∷ [])
  pub clears : Each ClearOf (0 ∷ 4 ∷ 6 ∷ [])
  pub reads : Each ReadOf (1 ∷ 2 ∷ 3 ∷ 4 ∷ 5 ∷ 14 ∷ 6 ∷ 9 ∷ [])
  pub blanks : Each BlankOf (0 ∷ 1 ∷ 2 ∷ 3 ∷ 5 ∷ [])
