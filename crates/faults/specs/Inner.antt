-- What the contracts of inner functions cite.
use Rattle.std.specs.Prelude.{ℕ, ◌-◌, not, ◌&&◌, List, eqb, length, Option, None, Some}
use Rattle.octets.specs.Bytes.{if◌then◌otherwise◌, part, all_zero}
use Rattle.layout.specs.Layout.{edition_of, edition_byte, slots, slot_count, sheet_size}
use Rattle.faults.specs.Faults.{first_set, slot_faults, first_in}
use Rattle.faults.specs.declared.HeaderRule.TheVariants.{Length}
use Rattle.faults.specs.declared.MarkRule.{MarkRule}
use Rattle.faults.specs.declared.Fault.{Fault}
use Rattle.faults.specs.declared.Fault.TheVariants.{Header, Mark}

-- the first of the header's zero bytes that isn't
unfoldable pub zero_place : List ℕ → Option ℕ
zero_place s = if eqb (edition_byte s) 2 && not (all_zero (part s 10 6)) then Some (first_set s 10 6) otherwise None

-- the first fault of slot i and of those after it
unfoldable pub slots_fault : List ℕ → ℕ → Option Fault
slots_fault s i = first_in (slot_faults (edition_of s) s (slots s - i) i)

-- the rule of the length, where n is right, and then the slots
unfoldable pub size_fault : List ℕ → Option Fault
size_fault s = if slot_count (slots s) && eqb (length s) (sheet_size (edition_of s).header (slots s)) then slots_fault s 0 otherwise Some (Header Length)

-- a rule of slot i, as a fault
abbrev pub mark_fault : ℕ → MarkRule → Option Fault
mark_fault i r = Some (Mark i r)
