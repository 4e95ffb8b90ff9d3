-- Which rule of the layout a sheet breaks first (document 02, request 5), and the numbers that point there.
use Rattle.std.specs.Prelude.{ℕ, zero, suc, ◌+◌, Bool, not, ◌&&◌, ◌||◌, List, [], ◌∷◌, eqb, leb, ltb, length, Option, None, Some, unwrap_or}
use Rattle.octets.specs.Bytes.{part, all_zero}
use Rattle.octets.specs.Outcome.{Row, ◌gives◌, decided}
use Rattle.layout.specs.Layout.{Edition, edition_of, slots, key_class, edition_byte, last_write, sheet_size, slot_count, mark_number, mark_length, mark, blank_slot}
use Rattle.faults.specs.declared.HeaderRule.{HeaderRule}
use Rattle.faults.specs.declared.HeaderRule.TheVariants.{Short, Count, Class, Edition as EditionRule, Zero as HeaderZero, Length as SheetLength}
use Rattle.faults.specs.declared.MarkRule.{MarkRule}
use Rattle.faults.specs.declared.MarkRule.TheVariants.{Number, Length, Zero}
use Rattle.faults.specs.declared.Fault.{Fault}
use Rattle.faults.specs.declared.Fault.TheVariants.{Header, Mark}

-- ---- the lowest byte that breaks a rule

-- how many zero bytes stand before the first that isn't zero, or before the end
unfoldable pub zeros_before : List ℕ → ℕ
zeros_before [] = 0
zeros_before (zero ∷ s) = suc (zeros_before s)
zeros_before (suc x ∷ s) = 0

-- the place of the first of n bytes from a that isn't zero, of those that s has
unfoldable pub first_set : List ℕ → ℕ → ℕ → ℕ
first_set s a n = a + zeros_before (part s a n)

-- ---- the faults, in their order

-- byte 3 is 1, 2 or 3
unfoldable pub edition_known : ℕ → Bool
edition_known v = eqb v 1 || (eqb v 2 || eqb v 3)

-- a slot that isn't all zero is held to the rules of a written one: its number is from 1 to w
unfoldable pub wrong_number : Edition → List ℕ → ℕ → Bool
wrong_number e s i = not (blank_slot e s i) && not (leb 1 (mark_number (mark e s i)) && leb (mark_number (mark e s i)) (last_write s))

-- of n slots from slot i on, each by its mark's lowest byte; a blank slot breaks none of the three rules
unfoldable pub slot_faults : Edition → List ℕ → ℕ → ℕ → List (Row Fault)
slot_faults e s zero i = []
slot_faults e s (suc n) i =
    (wrong_number e s i gives Mark i Number)
    ∷ (ltb 192 (mark_length (mark e s i)) gives Mark i Length)
    ∷ (not (all_zero (part (mark e s i) 6 2)) gives Mark i (Zero (first_set (mark e s i) 6 2)))
    ∷ slot_faults e s n (suc i)

-- a sheet under 8 bytes; the header by its lowest byte, the zero bytes being those of edition 2 that the sheet has; the length; then slot by slot
unfoldable pub faults : List ℕ → List (Row Fault)
faults s =
    (ltb (length s) 8 gives Header Short)
    ∷ (not (slot_count (slots s)) gives Header Count)
    ∷ (not ((edition_of s).classes (key_class s)) gives Header Class)
    ∷ (not (edition_known (edition_byte s)) gives Header EditionRule)
    ∷ (eqb (edition_byte s) 2 && not (all_zero (part s 10 6)) gives Header (HeaderZero (first_set s 10 6)))
    ∷ (not (eqb (length s) (sheet_size (edition_of s).header (slots s))) gives Header SheetLength)
    ∷ slot_faults (edition_of s) s (slots s) 0

-- the first fault that applies, if one does
unfoldable pub first_in : List (Row Fault) → Option Fault
first_in rows = decided rows None Some

unfoldable pub first_fault : List ℕ → Option Fault
first_fault s = first_in (faults s)

-- the fault of a sheet that breaks a rule of its layout. One that breaks none has no fault: no call is refused with what stands here for it
unfoldable pub fault_of : List ℕ → Fault
fault_of s = unwrap_or (first_fault s) (Header Short)

-- ---- the numbers

-- what a refusal points at: a rule, a slot and a byte's place
pub record Point : Type 0 where
  pub rule : ℕ
  pub slot : ℕ
  pub place : ℕ

abbrev pub point : ℕ → ℕ → ℕ → Point
point r i j = record { rule = r; slot = i; place = j }

unfoldable pub header_point : HeaderRule → Point
header_point Short = point 1 0 0
header_point Count = point 2 0 0
header_point Class = point 3 0 0
header_point EditionRule = point 4 0 0
header_point (HeaderZero j) = point 5 0 j
header_point SheetLength = point 6 0 0

unfoldable pub mark_point : ℕ → MarkRule → Point
mark_point i Number = point 7 i 0
mark_point i Length = point 8 i 0
mark_point i (Zero j) = point 9 i j

unfoldable pub fault_point : Fault → Point
fault_point (Header r) = header_point r
fault_point (Mark i r) = mark_point i r

-- where there is no fault, nothing is pointed at
unfoldable pub first_point : Option Fault → Point
first_point None = point 0 0 0
first_point (Some f) = fault_point f
