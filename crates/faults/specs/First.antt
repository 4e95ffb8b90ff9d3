-- What is proved of the first fault: a sheet without one meets the layout, and of the rules that a sheet breaks it is the first.
use Rattle.std.specs.Prelude.{ℕ, ◌+◌, ◌*◌, ◌≤◌, ◌<◌, ◌≡◌, true, false, List, [], ◌∷◌, ◌++◌, ◌↔◌, ◌⊎◌, length, get_or, None, Some}
use Rattle.octets.specs.Bytes.{zeros}
use Rattle.octets.specs.Clauses.{OneOf}
use Rattle.layout.specs.Layout.{edition_of, slots, key_class, edition_byte, last_write, mark_number, mark_length, mark, blank_slot, fit}
use Rattle.layout.specs.Rules.{MeetsLayout}
use Rattle.faults.specs.Faults.{Point, point, first_fault, fault_of, fault_point, first_point}
use Rattle.faults.specs.declared.HeaderRule.TheVariants.{Short, Count, Class, Edition as EditionRule, Zero as HeaderZero, Length as SheetLength}
use Rattle.faults.specs.declared.MarkRule.TheVariants.{Number, Length, Zero}
use Rattle.faults.specs.declared.Fault.{Fault}
use Rattle.faults.specs.declared.Fault.TheVariants.{Header, Mark}

-- that a sheet breaks a rule, and what points there: rule, slot and place. From 8 bytes on, bytes that a sheet lacks count as zero, and so break no rule but that of the length
pub data Breaks (s : List ℕ) : Fault → Point → Type 0 where
  short : length s < 8 → Breaks s (Header Short) (point 1 0 0)
  count : ((1 ≤ slots s) × (slots s ≤ 256) → ⊥) → Breaks s (Header Count) (point 2 0 0)
  class : (OneOf (4 ∷ 6 ∷ 8 ∷ []) (key_class s) ⊎ ((edition_byte s ≡ 3) × OneOf (21 ∷ 24 ∷ []) (key_class s)) → ⊥) → Breaks s (Header Class) (point 3 0 0)
  edition : ((edition_byte s ≡ 1) ⊎ ((edition_byte s ≡ 2) ⊎ (edition_byte s ≡ 3)) → ⊥) → Breaks s (Header EditionRule) (point 4 0 0)
  header_byte : (j : ℕ) → edition_byte s ≡ 2 → 10 ≤ j → j < 16 → (get_or s j 0 ≡ 0 → ⊥) → Breaks s (Header (HeaderZero j)) (point 5 0 j)
  size : (length s ≡ (edition_of s).header + 208 * slots s → ⊥) → Breaks s (Header SheetLength) (point 6 0 0)
  number : (i : ℕ) → i < slots s → blank_slot (edition_of s) s i ≡ false
      → ((1 ≤ mark_number (mark (edition_of s) s i)) × (mark_number (mark (edition_of s) s i) ≤ last_write s) → ⊥) → Breaks s (Mark i Number) (point 7 i 0)
  caption : (i : ℕ) → i < slots s → 192 < mark_length (mark (edition_of s) s i) → Breaks s (Mark i Length) (point 8 i 0)
  mark_byte : (i j : ℕ) → i < slots s → 6 ≤ j → j < 8 → (get_or (mark (edition_of s) s i) j 0 ≡ 0 → ⊥) → Breaks s (Mark i (Zero j)) (point 9 i j)

-- what suffices to break each rule: `Breaks` asks for no more
pub record Suffices (s : List ℕ) : Type 0 where
  pub short_by : length s < 8 → Breaks s (Header Short) (point 1 0 0)
  pub count_by : (slots s ≡ 0) ⊎ (256 < slots s) → Breaks s (Header Count) (point 2 0 0)
  pub class_by : (key_class s ≡ 4 → ⊥) → (key_class s ≡ 6 → ⊥) → (key_class s ≡ 8 → ⊥) → (edition_byte s ≡ 3 → (key_class s ≡ 21) ⊎ (key_class s ≡ 24) → ⊥)
      → Breaks s (Header Class) (point 3 0 0)
  pub edition_by : (edition_byte s ≡ 1 → ⊥) → (edition_byte s ≡ 2 → ⊥) → (edition_byte s ≡ 3 → ⊥) → Breaks s (Header EditionRule) (point 4 0 0)
  pub header_byte_by : (j : ℕ) → edition_byte s ≡ 2 → 10 ≤ j → j ≤ 15 → (get_or s j 0 ≡ 0 → ⊥) → Breaks s (Header (HeaderZero j)) (point 5 0 j)
  pub size_by : (length s ≡ (edition_of s).header + 208 * slots s → ⊥) → Breaks s (Header SheetLength) (point 6 0 0)
  pub number_by : (i : ℕ) → i < slots s → blank_slot (edition_of s) s i ≡ false
      → (mark_number (mark (edition_of s) s i) ≡ 0) ⊎ (last_write s < mark_number (mark (edition_of s) s i)) → Breaks s (Mark i Number) (point 7 i 0)
  pub caption_by : (i : ℕ) → i < slots s → 192 < mark_length (mark (edition_of s) s i) → Breaks s (Mark i Length) (point 8 i 0)
  pub mark_byte_by : (i j : ℕ) → i < slots s → (j ≡ 6) ⊎ (j ≡ 7) → (get_or (mark (edition_of s) s i) j 0 ≡ 0 → ⊥) → Breaks s (Mark i (Zero j)) (point 9 i j)

-- the order of faults: a sheet under 8 bytes, the header by its lowest byte, the length, then slot by slot, a mark by its lowest byte
unfoldable pub order : Fault → ℕ
order (Header Short) = 0
order (Header Count) = 1
order (Header Class) = 1 + 2
order (Header EditionRule) = 1 + 3
order (Header (HeaderZero j)) = 1 + j
order (Header SheetLength) = 1 + 16
order (Mark i Number) = 18 + 16 * i
order (Mark i Length) = 18 + 16 * i + 4
order (Mark i (Zero j)) = 18 + 16 * i + j

-- ---- what is found in some sheets

-- what the first fault of a sheet points at
abbrev pub point_of : List ℕ → Point
point_of s = first_point (first_fault s)

-- a sheet of edition 1 with two slots and w = 1: the first eight bytes of the two marks, and the first byte of the second field
abbrev pub two_slots : List ℕ → List ℕ → ℕ → List ℕ
two_slots a b f = 0 ∷ 2 ∷ 4 ∷ 1 ∷ 0 ∷ 0 ∷ 0 ∷ 1 ∷ (a ++ (zeros 8 ++ (b ++ (zeros 8 ++ (zeros 192 ++ (f ∷ zeros 191))))))

-- the first eight bytes of a mark: write number w, caption length n, and z as the second of the two zero bytes
abbrev pub marked : ℕ → ℕ → ℕ → List ℕ
marked w n z = 0 ∷ 0 ∷ 0 ∷ w ∷ 0 ∷ n ∷ 0 ∷ z ∷ []

pub record FaultCases : Type 0 where
  pub fit : point_of (two_slots (marked 0 0 0) (marked 1 192 0) 7) ≡ point 0 0 0
  pub seven_bytes : point_of (zeros 7) ≡ point 1 0 0
  -- n, t and the edition are wrong, then t and the edition, then the edition alone, beside the length
  pub no_slots : point_of (zeros 8) ≡ point 2 0 0
  pub no_class : point_of (0 ∷ 1 ∷ zeros 6) ≡ point 3 0 0
  pub no_edition : point_of (0 ∷ 1 ∷ 4 ∷ zeros 5) ≡ point 4 0 0
  -- 21 and 24 in byte 2 under editions 1 and 2 and an unknown one, and under edition 3
  pub present_in_1 : point_of (0 ∷ 1 ∷ 21 ∷ 1 ∷ zeros 4) ≡ point 3 0 0
  pub present_in_2 : point_of (0 ∷ 1 ∷ 24 ∷ 2 ∷ zeros 4) ≡ point 3 0 0
  pub present_in_4 : point_of (0 ∷ 1 ∷ 21 ∷ 4 ∷ zeros 4) ≡ point 3 0 0
  pub present_in_3 : (point_of (0 ∷ 1 ∷ 21 ∷ 3 ∷ zeros 4) ≡ point 6 0 0) × (point_of (0 ∷ 1 ∷ 24 ∷ 3 ∷ zeros 4) ≡ point 6 0 0)
  -- twelve bytes of edition 2, the last of them set; eight and eleven bytes of it, none of the six set
  pub byte_11 : point_of (0 ∷ 1 ∷ 4 ∷ 2 ∷ 0 ∷ 0 ∷ 0 ∷ 0 ∷ 0 ∷ 0 ∷ 0 ∷ 1 ∷ []) ≡ point 5 0 11
  pub eight_bytes : point_of (0 ∷ 1 ∷ 4 ∷ 2 ∷ zeros 4) ≡ point 6 0 0
  pub eleven_bytes : point_of (0 ∷ 1 ∷ 4 ∷ 2 ∷ zeros 7) ≡ point 6 0 0
  -- the same twelve bytes of edition 3, where byte 11 is the key mark's and has no rule
  pub key_mark_byte : point_of (0 ∷ 1 ∷ 4 ∷ 3 ∷ 0 ∷ 0 ∷ 0 ∷ 0 ∷ 0 ∷ 0 ∷ 0 ∷ 1 ∷ []) ≡ point 6 0 0
  -- a zero mark over a field that isn't; a number above w
  pub zero_mark : point_of (two_slots (marked 1 5 0) (marked 0 0 0) 7) ≡ point 7 1 0
  pub above_w : point_of (two_slots (marked 2 5 0) (marked 0 0 0) 0) ≡ point 7 0 0
  pub length_193 : point_of (two_slots (marked 1 5 0) (marked 1 193 1) 7) ≡ point 8 1 0
  pub byte_7 : point_of (two_slots (marked 1 5 0) (marked 1 5 1) 7) ≡ point 9 1 7
  -- a mark by its lowest byte: number and length both wrong, bytes 6 and 7 both set
  pub number_and_length : point_of (two_slots (marked 1 5 0) (marked 2 193 0) 7) ≡ point 7 1 0
  pub bytes_6_and_7 : point_of (two_slots (marked 1 5 0) (0 ∷ 0 ∷ 0 ∷ 1 ∷ 0 ∷ 5 ∷ 1 ∷ 1 ∷ []) 7) ≡ point 9 1 6
  -- the header by its lowest byte: bytes 10 and 12 of edition 2 both set; and before the slots: a byte too many beside a broken slot
  pub bytes_10_and_12 : point_of (0 ∷ 1 ∷ 4 ∷ 2 ∷ 0 ∷ 0 ∷ 0 ∷ 0 ∷ 0 ∷ 0 ∷ 1 ∷ 0 ∷ 1 ∷ zeros 211) ≡ point 5 0 10
  pub class_and_byte : point_of (0 ∷ 1 ∷ 5 ∷ 2 ∷ 0 ∷ 0 ∷ 0 ∷ 0 ∷ 0 ∷ 0 ∷ 1 ∷ zeros 213) ≡ point 3 0 0
  pub length_and_slot : point_of (two_slots (marked 2 5 0) (marked 0 0 0) 0 ++ (0 ∷ [])) ≡ point 6 0 0
  -- both slots are broken, the lower one in a higher byte
  pub lowest_slot : point_of (two_slots (marked 1 5 1) (marked 2 193 1) 7) ≡ point 9 0 7

-- ---- the statement

pub record FirstFault : Type 0 where
  -- a sheet is fit exactly if it has no first fault
  pub fits : (s : List ℕ) → MeetsLayout s ↔ (first_fault s ≡ None)
  -- a first fault is broken, and points there
  pub broken : (s : List ℕ) (f : Fault) → first_fault s ≡ Some f → Breaks s f (fault_point f)
  -- where a rule is broken there is a first fault, and nothing before it is broken
  pub some : (s : List ℕ) (f : Fault) (p : Point) → Breaks s f p → first_fault s ≡ None → ⊥
  pub first : (s : List ℕ) (f : Fault) (p : Point) → Breaks s f p → (g : Fault) → first_fault s ≡ Some g → order g ≤ order f
  -- no two rules stand at one place of the order, so that no other fault is first
  pub only : (s : List ℕ) (f : Fault) (p : Point) → Breaks s f p → ((g : Fault) (q : Point) → Breaks s g q → order f ≤ order g) → first_fault s ≡ Some f
  -- the fault of an unfit sheet is its first
  pub fault_is : (s : List ℕ) → (MeetsLayout s → ⊥) → first_fault s ≡ Some (fault_of s)
  -- the order itself
  pub order_is : (i j : ℕ) → (order (Header Short) ≡ 0) × (order (Header Count) ≡ 1) × (order (Header Class) ≡ 3) × (order (Header EditionRule) ≡ 4) × (order (Header (HeaderZero j)) ≡ 1 + j)
      × (order (Header SheetLength) ≡ 17) × (order (Mark i Number) ≡ 18 + 16 * i) × (order (Mark i Length) ≡ 18 + 16 * i + 4) × (order (Mark i (Zero j)) ≡ 18 + 16 * i + j)
  -- `fit` is the layout's own test
  pub fit_is : (s : List ℕ) → (fit s ≡ true) ↔ MeetsLayout s
  -- what it takes to break a rule
  pub suffices : (s : List ℕ) → Suffices s
  -- each rule is the first in some sheet
  pub cases : FaultCases
