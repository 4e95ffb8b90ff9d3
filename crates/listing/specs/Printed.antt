-- What is printed, in plain values: numbers by their digits, and whole listings.
use Rattle.std.specs.Prelude.{ℕ, suc, ◌+◌, ◌-◌, ◌*◌, ◌≤◌, ◌<◌, ◌≡◌, true, false, List, [], ◌∷◌, ◌++◌, length, get_or, drop, replicate}
use Rattle.octets.specs.Bytes.{zeros}
use Rattle.listing.specs.Ascii.{ascii}
use Rattle.listing.specs.Listing.{decimal, head_line, written_line, slot_line, slot_lines, key_bits, listable, listing, listed}
use Rattle.layout.specs.Layout.{edition_of, slots, key_class, last_write, mark, mark_number, mark_length, blank_slot}

-- the number that digits of ASCII stand for, the highest first, after digits that stand for v
unfoldable pub value_from : ℕ → List ℕ → ℕ
value_from v [] = v
value_from v (d ∷ ds) = value_from (10 * v + (d - 48)) ds

abbrev pub value : List ℕ → ℕ
value = value_from 0

-- two slots of edition 1, t = 4, w = 5: slot 1 has number 3 and length 17
abbrev pub written4 : List ℕ
written4 = 0 ∷ 2 ∷ 4 ∷ 1 ∷ 0 ∷ 0 ∷ 0 ∷ 5 ∷ (zeros 16 ++ (0 ∷ 0 ∷ 0 ∷ 3 ∷ 0 ∷ 17 ∷ 0 ∷ 0 ∷ zeros 392))

-- one slot of edition 2, t = 6, serial 258, w = 100000: slot 0 has that number and length 192
abbrev pub written6 : List ℕ
written6 = 0 ∷ 1 ∷ 6 ∷ 2 ∷ 0 ∷ 1 ∷ 134 ∷ 160 ∷ 1 ∷ 2 ∷ (zeros 6 ++ (0 ∷ 1 ∷ 134 ∷ 160 ∷ 0 ∷ 192 ∷ 0 ∷ 0 ∷ replicate 200 7))

-- two slots of edition 3, t = 8, serial 258 and a key mark, w = 258: slot 0 has number 10 and an empty caption
abbrev pub written8 : List ℕ
written8 = 0 ∷ 2 ∷ 8 ∷ 3 ∷ 0 ∷ 0 ∷ 1 ∷ 2 ∷ 1 ∷ 2 ∷ (replicate 6 9 ++ (0 ∷ 0 ∷ 0 ∷ 10 ∷ zeros 412))

-- one slot of edition 3, t = 21 or 24, which is PRESENT with 80 or 128 bits, w = 3: slot 0 has number 2 and length 5
abbrev pub written_present : ℕ → List ℕ
written_present t = 0 ∷ 1 ∷ t ∷ 3 ∷ 0 ∷ 0 ∷ 0 ∷ 3 ∷ 1 ∷ 2 ∷ (replicate 6 9 ++ (0 ∷ 0 ∷ 0 ∷ 2 ∷ 0 ∷ 5 ∷ 0 ∷ 0 ∷ replicate 200 7))

pub record Printed : Type 0 where
  -- the decimal digits of every number are digits, and have that number as their value; none in front is 0
  pub digits_value : (n : ℕ) → value (decimal n) ≡ n
  pub digits_are : (n i : ℕ) → i < length (decimal n) → (48 ≤ get_or (decimal n) i 0) × (get_or (decimal n) i 0 ≤ 57)
  pub no_zero_ahead : (n : ℕ) → 1 ≤ n → get_or (decimal n) 0 0 ≡ 48 → ⊥
  pub zero_itself : decimal 0 ≡ ascii "0"
  -- document 01's line and its sheet, and the same sheet in edition 2, with serial 1
  pub line_1 : written_line 1 3 17 ≡ ascii "1 written 3 17\n"
  pub blank_1 : listing (0 ∷ 2 ∷ 4 ∷ 1 ∷ zeros 420) ≡ ascii "slots 2 key 64 last 0\n0 blank\n1 blank\n"
  pub blank_2 : listing (0 ∷ 2 ∷ 4 ∷ 2 ∷ (zeros 5 ++ (1 ∷ zeros 422))) ≡ ascii "slots 2 key 64 last 0\n0 blank\n1 blank\n"
  -- a slot written, in a sheet of each class and each edition
  pub written_4 : listing written4 ≡ ascii "slots 2 key 64 last 5\n0 blank\n1 written 3 17\n"
  pub written_6 : listing written6 ≡ ascii "slots 1 key 96 last 100000\n0 written 100000 192\n"
  pub written_8 : listing written8 ≡ ascii "slots 2 key 128 last 258\n0 written 10 0\n1 blank\n"
  pub written_21 : listing (written_present 21) ≡ ascii "slots 1 key 80 last 3\n0 written 2 5\n"
  pub written_24 : listing (written_present 24) ≡ ascii "slots 1 key 128 last 3\n0 written 2 5\n"
  -- the bits of a key, by byte 2
  pub bits : (s : List ℕ) → (key_class s ≡ 4 → key_bits s ≡ 64) × (key_class s ≡ 6 → key_bits s ≡ 96) × (key_class s ≡ 8 → key_bits s ≡ 128) × (key_class s ≡ 21 → key_bits s ≡ 80)
      × (key_class s ≡ 24 → key_bits s ≡ 128)
  -- every listing, line by line
  pub whole : (s : List ℕ) → listable s ≡ true → listing s ≡ head_line (slots s) (key_bits s) (last_write s) ++ slot_lines s (slots s)
  pub first_line : (n bits w : ℕ) → head_line n bits w ≡ ascii "slots " ++ (decimal n ++ (ascii " key " ++ (decimal bits ++ (ascii " last " ++ (decimal w ++ ascii "\n")))))
  pub no_line : (s : List ℕ) → slot_lines s 0 ≡ []
  pub next_line : (s : List ℕ) (i : ℕ) → slot_lines s (suc i) ≡ slot_lines s i ++ slot_line s i
  pub blank_line_lem : (s : List ℕ) (i : ℕ) → blank_slot (edition_of s) s i ≡ true → slot_line s i ≡ decimal i ++ ascii " blank\n"
  pub written_line_lem : (s : List ℕ) (i : ℕ) → blank_slot (edition_of s) s i ≡ false
      → slot_line s i ≡ decimal i ++ (ascii " written " ++ (decimal (mark_number (mark (edition_of s) s i)) ++ (ascii " " ++ (decimal (mark_length (mark (edition_of s) s i)) ++ ascii "\n"))))
  -- a sheet of no bytes
  pub no_bytes : listing [] ≡ ascii "unfit\n"
  -- a call puts the listing at the start of its output and answers its length; where it doesn't fit, 0 and the output as it was
  pub put_whole : (s out : List ℕ) → length (listing s) ≤ length out → listed s out ≡ (length (listing s), listing s ++ drop (length (listing s)) out)
  pub put_nothing : (s out : List ℕ) → length out < length (listing s) → listed s out ≡ (0, out)
