-- What the contracts of the slot test's parts say: x is the write number of a mark, y the number in its bytes 4 to 7.
use Rattle.std.specs.Prelude.{ℕ, ◌+◌, ◌/◌, ◌%◌, Bool, ◌&&◌, List, eqb, leb}
use Rattle.octets.specs.Bytes.{part, all_zero}
use Rattle.layout.specs.Layout.{mark_at, field_at}
use Rattle.layout.specs.declared.Shape.{Shape}

-- a slot whose write number is not 0 is written
unfoldable pub written_after : ℕ → ℕ → ℕ → Bool
written_after w x y = leb x w && (leb (y / 65536) 192 && eqb (y % 65536) 0)

-- slot i of a sheet s of shape h, whose write number is 0, is blank
unfoldable pub blank_after : List ℕ → Shape → ℕ → ℕ → Bool
blank_after s h i y = eqb y 0 && (all_zero (part s (mark_at h.header i + 8) 8) && all_zero (part s (field_at h.header h.slots i) 192))
