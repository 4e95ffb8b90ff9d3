-- Laws of lines put after a text, one for each way out of a function that puts them.
use Prim.Native.Nat.{ℕ, ◌+◌, ◌≤◌}
use mathlib.Core.Path.{◌≡◌, sym, ap, ◌∙◌}
use mathlib.Core.Bool.{Bool, true, false}
use mathlib.Core.List.{List, ◌++◌, append_assoc, append-nil}
use native.Mathlib.Numerals.{add-one}
use native.Mathlib.Omega.{arith}
use Rattle.octets.specs.Bytes.{number, part}
use Rattle.octets.proofs.Parts.{part_part}
use Rattle.layout.specs.declared.Shape.{Shape}
use Rattle.layout.specs.Layout.{edition_of, mark_number, mark_length, mark_at, mark, blank_slot}
use Rattle.layout.specs.Shape.{SlotIn}
use Rattle.layout.proofs.Slots.{header_is}
use Rattle.listing.specs.Ascii.{ascii}
use Rattle.listing.specs.Listing.{decimal, space, line_feed, ended, line, head_line, blank_line, written_line, slot_line, slot_lines}

-- a word, a number, and the bytes after them
abbrev field_text : List ℕ → ℕ → ℕ → List ℕ
field_text w x b = ended w space ++ ended (decimal x) b

pub head_put : (n bits last : ℕ) → (field_text (ascii "slots") n space ++ field_text (ascii "key") bits space) ++ field_text (ascii "last") last line_feed ≡ head_line n bits last
unfolding head_line line
head_put n bits last = simp append_assoc

-- ---- the line of slot i of a sheet s of shape h

module _ (s : List ℕ) (h : Shape) (i : ℕ) (p : SlotIn s h i) (k : ℕ) (e : k ≡ mark_at h.header i) where
  part_mark : (b n : ℕ) → b + n ≤ 16 → part s (k + b) n ≡ part (mark (edition_of s) s i) b n
  unfolding mark
  part_mark b n l =
      ap (λ (j : ℕ). part s (j + b) n) (e ∙ ap (λ (j : ℕ). mark_at j i) (header_is s h i p))
      ∙ sym (part_part s (mark_at (edition_of s).header i) 16 b n l)

  number_read : (x : ℕ) → x ≡ number (part s k 4) → x ≡ mark_number (mark (edition_of s) s i)
  unfolding mark_number
  number_read x f = f ∙ ap (λ (j : ℕ). number (part s j 4)) {x = k} {y = k + 0} (omega arith) ∙ ap number (part_mark 0 4 (omega arith))

  pub length_read : (x : ℕ) → x ≡ number (part s (k + 4) 2) → x ≡ mark_length (mark (edition_of s) s i)
  unfolding mark_length
  length_read x f = f ∙ ap number (part_mark 4 2 (omega arith))

-- b is what was found of its blankness, and its number is put after v
module _ (s : List ℕ) (i : ℕ) (b : Bool) (t : b ≡ blank_slot (edition_of s) s i) (v m : List ℕ) (f : m ≡ v ++ ended (decimal i) space) where
  pub blank_put : b ≡ true → (x : List ℕ) → x ≡ m ++ ended (ascii "blank") line_feed → x ≡ v ++ slot_line s i
  unfolding slot_line blank_line line
  blank_put c x q = q ∙ rw (f, ← t, c) (append_assoc v (ended (decimal i) space) (ended (ascii "blank") line_feed))

  pub written_put : b ≡ false → (h : Shape) → SlotIn s h i → (k : ℕ) → k ≡ mark_at h.header i
      → (n : ℕ) → n ≡ number (part s k 4) → (c : ℕ) → c ≡ number (part s (k + 4) 2)
      → (o x : List ℕ) → o ≡ m ++ field_text (ascii "written") n space → x ≡ o ++ ended (decimal c) line_feed → x ≡ v ++ slot_line s i
  unfolding slot_line written_line line
  written_put d h p k w n y c z o x q r = r ∙ rw (q, f, ← t, d, ← number_read s h i p k w n y, ← length_read s h i p k w c z) (simp append_assoc)

-- ---- the lines of the slots, of which those below i are put after v

module _ (s v : List ℕ) where
  pub no_slots_put : v ≡ v ++ slot_lines s 0
  unfolding slot_lines
  no_slots_put = sym (append-nil v)

  module _ (m : List ℕ) (i : ℕ) (p : m ≡ v ++ slot_lines s i) where
    pub slot_put : (x : List ℕ) → x ≡ m ++ slot_line s i → x ≡ v ++ slot_lines s (i + 1)
    unfolding slot_lines
    slot_put x q = q ∙ rw (p, add-one i) (append_assoc v (slot_lines s i) (slot_line s i))

    pub slots_put : (n : ℕ) → i ≤ n → n ≤ i → m ≡ v ++ slot_lines s n
    slots_put n h g = let e : n ≡ i = omega arith in rw e p
