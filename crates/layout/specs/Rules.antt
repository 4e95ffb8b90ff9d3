-- The layout of a sheet rule by rule, in the words of document 01 and of document 02, requests 3, 7 and 10: the plain meaning of `fit`.
use Rattle.std.specs.Prelude.{ℕ, ◌+◌, ◌*◌, ◌≤◌, ◌<◌, ◌≡◌, List, [], ◌∷◌, ◌⊎◌, length}
use Rattle.octets.specs.Bytes.{zeros, part}
use Rattle.octets.specs.Clauses.{OneOf}
use Rattle.layout.specs.Layout.{Edition, edition1, edition2, edition3, slots, key_class, edition_byte, last_write, mark_number, mark_length, mark, field}

-- t in editions 1 and 2: 4, 6 or 8
abbrev pub Words : ℕ → Type 0
Words t = OneOf (4 ∷ 6 ∷ 8 ∷ []) t

-- t in edition 3: also 21, PRESENT with 80 bits, and 24, PRESENT with 128 bits
abbrev pub Classes : ℕ → Type 0
Classes t = OneOf (4 ∷ 6 ∷ 8 ∷ 21 ∷ 24 ∷ []) t

-- n key bytes fit t: 10 of them 21, 16 of them 24, and 2 × t of them any other
abbrev pub KeyFits : ℕ → ℕ → Type 0
KeyFits n t = (t ≡ 21 → n ≡ 10) × (t ≡ 24 → n ≡ 16) × ((t ≡ 21 → ⊥) → (t ≡ 24 → ⊥) → n ≡ 2 * t)

module _ (e : Edition) where
  -- a blank slot has all 208 bytes zero
  pub record IsBlank (s : List ℕ) (i : ℕ) : Type 0 where
    pub mark_zero : mark e s i ≡ zeros 16
    pub field_zero : field e s i ≡ zeros 192

  -- a written slot has a write number from 1 to w and a length from 0 to 192, and the mark's two zero bytes
  pub record IsWritten (s : List ℕ) (i : ℕ) : Type 0 where
    pub number_from_1 : 1 ≤ mark_number (mark e s i)
    pub number_to_w : mark_number (mark e s i) ≤ last_write s
    pub length_to_192 : mark_length (mark e s i) ≤ 192
    pub two_zeros : part (mark e s i) 6 2 ≡ zeros 2

  -- what holds of a sheet of any edition
  pub record Rules (s : List ℕ) : Type 0 where
    pub eight_bytes : 8 ≤ length s
    pub slots_from_1 : 1 ≤ slots s
    pub slots_to_256 : slots s ≤ 256
    pub size : length s ≡ e.header + 208 * slots s
    -- every slot is one or the other
    pub slot : (i : ℕ) → i < slots s → IsBlank s i ⊎ IsWritten s i

-- what edition 1 adds
pub record Edition1 (s : List ℕ) : Type 0 where
  pub words : Words (key_class s)
  pub edition : edition_byte s ≡ 1

-- what edition 2 adds: after w come a serial, which has no rule, and six zero bytes
pub record Edition2 (s : List ℕ) : Type 0 where
  pub words : Words (key_class s)
  pub edition : edition_byte s ≡ 2
  pub six_zeros : part s 10 6 ≡ zeros 6

-- what edition 3 adds: the serial and the key mark have no rule
pub record Edition3 (s : List ℕ) : Type 0 where
  pub class : Classes (key_class s)
  pub edition : edition_byte s ≡ 3

-- a sheet meets the layout of one of the three editions
pub data MeetsLayout (s : List ℕ) : Type 0 where
  one : Rules edition1 s → Edition1 s → MeetsLayout s
  two : Rules edition2 s → Edition2 s → MeetsLayout s
  three : Rules edition3 s → Edition3 s → MeetsLayout s
