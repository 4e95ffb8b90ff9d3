-- What the code keeps of a sheet's header while it works: the contracts of inner functions speak of it.
use Rattle.std.specs.Prelude.{ℕ, ◌≤◌, ◌<◌, ◌≡◌, Bool, true, ◌||◌, List, eqb, length}
use Rattle.layout.specs.Layout.{edition_of, slots, key_class, sheet_size, fit}
use Rattle.layout.specs.declared.Shape.{Shape}

-- editions 2 and 3 have a header of 16 bytes, with a serial
unfoldable pub has_serial : ℕ → Bool
has_serial v = eqb v 2 || eqb v 3

unfoldable pub shape_of : List ℕ → Shape
shape_of s =
    record {
      header = (edition_of s).header;
      slots = slots s;
      class = key_class s;
      tail = (edition_of s).tail s;
    }

-- h is the shape of the sheet s, whose length is right; the bounds hold of every fit sheet and keep places in range
pub record SheetOf (s : List ℕ) (h : Shape) : Type 0 where
  pub shape : h ≡ shape_of s
  pub size : length s ≡ sheet_size h.header h.slots
  pub small : (h.header ≤ 16) × (h.slots ≤ 256)

-- slot i of the sheet s, whose shape is h: where its mark and its field lie is inside the sheet
pub record SlotIn (s : List ℕ) (h : Shape) (i : ℕ) : Type 0 where
  pub shape : h ≡ shape_of s
  pub size : length s ≡ sheet_size h.header h.slots
  pub small : (h.header ≤ 16) × (h.slots ≤ 256)
  pub below : i < h.slots

-- a sheet that meets the layout, and one of its slots
pub record FitSlot (s : List ℕ) (i : ℕ) : Type 0 where
  pub fits : fit s ≡ true
  pub below : i < slots s
