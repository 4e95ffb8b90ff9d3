-- Where the fields of a sheet stand, with the high byte first: what the layout's names mean, of every sheet and in plain values.
use Rattle.std.specs.Prelude.{ℕ, ◌+◌, ◌*◌, ◌/◌, ◌%◌, ◌≤◌, ◌<◌, ◌≡◌, true, false, List, [], ◌∷◌, ◌⊎◌, ◌↔◌, length, get_or}
use Rattle.octets.specs.Bytes.{zeros, part}
use Rattle.octets.specs.Clauses.{OneOf}
use Rattle.octets.specs.Plain.{Plain}
use Rattle.layout.specs.Layout.{edition1, edition2, edition3, edition_of, new_edition, slots, key_class, edition_byte, last_write, serial, stored_mark, sheet_size, mark_number, mark_length, mark_check, mark, field, blank_header}
use Rattle.layout.specs.Rules.{MeetsLayout}

abbrev pub byte : List ℕ → ℕ → ℕ
byte s j = get_or s j 0

-- in the first 8 bytes: n, t, the edition and w
pub record FirstEight (s : List ℕ) : Type 0 where
  pub n : slots s ≡ byte s 0 * 256 + byte s 1
  pub t : key_class s ≡ byte s 2
  pub edition : edition_byte s ≡ byte s 3
  pub w : last_write s ≡ byte s 4 * 16777216 + byte s 5 * 65536 + byte s 6 * 256 + byte s 7

-- in the 8 bytes after them, in editions 2 and 3: the serial, and in edition 3 the key mark
pub record NextEight (s : List ℕ) : Type 0 where
  pub serial_is : serial s ≡ byte s 8 * 256 + byte s 9
  pub key_mark_lem : stored_mark s ≡ byte s 10 ∷ byte s 11 ∷ byte s 12 ∷ byte s 13 ∷ byte s 14 ∷ byte s 15 ∷ []

-- in a mark of 16 bytes: the write number, the caption's length and the check
pub record InMark (m : List ℕ) : Type 0 where
  pub number : mark_number m ≡ byte m 0 * 16777216 + byte m 1 * 65536 + byte m 2 * 256 + byte m 3
  pub caption : mark_length m ≡ byte m 4 * 256 + byte m 5
  pub check : mark_check m ≡ byte m 8 ∷ byte m 9 ∷ byte m 10 ∷ byte m 11 ∷ byte m 12 ∷ byte m 13 ∷ byte m 14 ∷ byte m 15 ∷ []

pub record Places : Type 0 where
  pub first_eight_lem : (s : List ℕ) → 8 ≤ length s → FirstEight s
  pub next_eight : (s : List ℕ) → 16 ≤ length s → NextEight s
  pub in_mark : (m : List ℕ) → length m ≡ 16 → InMark m
  -- edition 1: 8 bytes of header, 16 × n of marks, 192 × n of fields; zero at the end of the block that is encrypted to make a start block
  pub header : edition1.header ≡ 8
  pub marks : (s : List ℕ) (i : ℕ) → mark edition1 s i ≡ part s (8 + 16 * i) 16
  pub fields : (s : List ℕ) (i : ℕ) → field edition1 s i ≡ part s (8 + 16 * slots s + 192 * i) 192
  pub tail : (s : List ℕ) → edition1.tail s ≡ 0
  -- edition 2: 16 bytes of header, and the serial at the end of that block
  pub header_2 : edition2.header ≡ 16
  pub marks_2 : (s : List ℕ) (i : ℕ) → mark edition2 s i ≡ part s (16 + 16 * i) 16
  pub fields_2 : (s : List ℕ) (i : ℕ) → field edition2 s i ≡ part s (16 + 16 * slots s + 192 * i) 192
  pub tail_2 : (s : List ℕ) → edition2.tail s ≡ serial s
  -- edition 3: the same, and a key mark, which neither edition 1 nor edition 2 has
  pub header_3 : edition3.header ≡ 16
  pub marks_3 : (s : List ℕ) (i : ℕ) → mark edition3 s i ≡ part s (16 + 16 * i) 16
  pub fields_3 : (s : List ℕ) (i : ℕ) → field edition3 s i ≡ part s (16 + 16 * slots s + 192 * i) 192
  pub tail_3 : (s : List ℕ) → edition3.tail s ≡ serial s
  pub keyed : (edition1.keyed ≡ false) × (edition2.keyed ≡ false) × (edition3.keyed ≡ true)
  -- byte 2: 4, 6 or 8, and in edition 3 also 21 and 24
  pub classes : (s : List ℕ) (t : ℕ) → ((edition_of s).classes t ≡ true) ↔ (OneOf (4 ∷ 6 ∷ 8 ∷ []) t ⊎ ((edition_byte s ≡ 3) × OneOf (21 ∷ 24 ∷ []) t))
  -- byte 3 chooses the edition
  pub chosen_3 : (s : List ℕ) → edition_byte s ≡ 3 → edition_of s ≡ edition3
  pub chosen_2 : (s : List ℕ) → edition_byte s ≡ 2 → edition_of s ≡ edition2
  pub chosen_1 : (s : List ℕ) → (edition_byte s ≡ 2 → ⊥) → (edition_byte s ≡ 3 → ⊥) → edition_of s ≡ edition1
  -- a sheet meets the layout if no rule of document 01 or 02 is broken: nothing else is asked of it
  pub meets : (s : List ℕ) → 8 ≤ length s → 1 ≤ slots s → slots s ≤ 256 → OneOf (1 ∷ 2 ∷ 3 ∷ []) (edition_byte s)
      → (OneOf (4 ∷ 6 ∷ 8 ∷ []) (key_class s) ⊎ ((edition_byte s ≡ 3) × OneOf (21 ∷ 24 ∷ []) (key_class s)))
      → (edition_byte s ≡ 2 → part s 10 6 ≡ zeros 6) → length s ≡ (edition_of s).header + 208 * slots s
      → ((i : ℕ) → i < slots s
      → ((mark (edition_of s) s i ≡ zeros 16) × (field (edition_of s) s i ≡ zeros 192))
      ⊎ ((1 ≤ mark_number (mark (edition_of s) s i)) × (mark_number (mark (edition_of s) s i) ≤ last_write s) × (mark_length (mark (edition_of s) s i) ≤ 192)
      × (part (mark (edition_of s) s i) 6 2 ≡ zeros 2)))
      → MeetsLayout s
  -- the least and the largest sheet, of edition 1 and of editions 2 and 3
  pub sizes : (sheet_size 8 1 ≡ 216) × (sheet_size 8 256 ≡ 53256) × (sheet_size 16 1 ≡ 224) × (sheet_size 16 256 ≡ 53264)
  -- blanking makes edition 3, and its header byte by byte: n, t, the edition, w = 0, the serial x, the key mark m
  pub new : new_edition ≡ edition3
  pub new_header : (n t x : ℕ) (m : List ℕ)
      → blank_header n t x m ≡ n / 256 % 256 ∷ n % 256 ∷ t % 256 ∷ 3 ∷ 0 ∷ 0 ∷ 0 ∷ 0 ∷ x / 256 % 256 ∷ x % 256 ∷ m
  -- bytes and numbers themselves
  pub plain : Plain
