-- For contracts alone: the ciphers of loaded keys, what a read comes to once its slot may be opened, and where parts of a slot lie.
use Rattle.std.specs.Prelude.{ℕ, ◌-◌, ◌≤◌, ◌<◌, ◌≡◌, false, List, [], ◌∷◌, length, Ok, Err}
use Rattle.octets.specs.Bytes.{zeros, put}
use Rattle.octets.specs.Outcome.{decided}
use Rattle.cipher.specs.Key.{encrypted, decrypted}
use Rattle.cipher.specs.declared.Key.{Key}
use Rattle.layout.specs.Layout.{edition_of, sheet_size, mark_length, mark, blank_slot}
use Rattle.layout.specs.Shape.{FitSlot}
use Rattle.layout.specs.declared.Shape.{Shape}
use Rattle.faults.specs.Faults.{first_set}
use Rattle.captions.specs.Answers.{Outcome, outcome}
use Rattle.captions.specs.Captions.{Ciphers, opened}
use Rattle.captions.specs.Calls.{altered_row}
use Rattle.captions.specs.declared.Refusal.TheVariants.{Altered}
use Rattle.captions.specs.declared.Change.TheVariants.{Byte}

-- k is the loaded sealing key, m the loaded checking key
abbrev pub ciphers : Key → Key → Ciphers
ciphers k m = record { E = encrypted k; D = decrypted k; M = encrypted m }

-- a read of slot i that has opened v, and finds a byte at or past len that isn't zero
unfoldable pub left_in : List ℕ → ℕ → ℕ → Outcome
left_in v i len = outcome (Err (Altered i (Byte (first_set v len (192 - len))))) (zeros (length v))

-- what a read comes to once every test before 10 is passed
unfoldable pub slot_shown : Ciphers → List ℕ → ℕ → Outcome
slot_shown x s i =
    decided (altered_row x (edition_of s) s i ∷ []) (outcome (Ok (mark_length (mark (edition_of s) s i))) (opened x (edition_of s) s i)) (λ r. outcome (Err r) (zeros 192))

-- a slot that isn't blank, of a sheet that meets the layout
pub record Written (s : List ℕ) (i : ℕ) : Type 0 where
  pub slot : FitSlot s i
  pub marked : blank_slot (edition_of s) s i ≡ false

-- a sheet of the shape h has n bytes, and i is one of its slots
pub record Placed (n : ℕ) (h : Shape) (i : ℕ) : Type 0 where
  pub size : n ≡ sheet_size h.header h.slots
  pub small : (h.header ≤ 16) × (h.slots ≤ 256)
  pub below : i < h.slots

-- t is s with the whole sealed field f at place b
pub record FieldPut (s : List ℕ) (b : ℕ) (f t : List ℕ) : Type 0 where
  pub size : length f ≡ 192
  pub stored : t ≡ put s b f
