-- What is proved of a wall panel (document 02, request 8), with mCrypton as the cipher, by any path number: which bytes it is sealed to, that the same call opens it,
-- exactly which calls are refused, and that no key block comes twice where no number does. x is the panel, and p the path number.
use Rattle.std.specs.Prelude.{◌≡◌, ℕ, ◌+◌, ◌-◌, ◌*◌, ◌/◌, ◌%◌, ◌^◌, ◌<◌, ◌≤◌, ◌≢◌, List, [], ◌∷◌, length, replicate, bit_xor, slice_index, Ok, Err}
use Rattle.octets.specs.Bytes.{Bytes, zeros}
use Rattle.octets.specs.Clauses.{Clause, ◌when◌, Exactly, OneOf}
use Rattle.schedule.specs.Schedule.{times}
use Rattle.mcrypton.specs.Bytes.{encrypt_bytes}
use Rattle.octets.specs.BlockCalls.{Leaves}
use Rattle.mcrypton.specs.Vectors.{key4, key6, key8}
use Rattle.panels.specs.Calls.{panel_outcome, panelling}
use Rattle.panels.specs.declared.PanelError.TheVariants.{WrongKey, WrongSpan, Overlong}

-- ---- the sealed panel

-- the counter block of a number: 8 bytes, high byte first
abbrev pub counter_block : ℕ → List ℕ
counter_block x =
    x / 0x100000000000000 % 256 ∷ x / 0x1000000000000 % 256 ∷ x / 0x10000000000 % 256 ∷ x / 0x100000000 % 256
    ∷ x / 0x1000000 % 256 ∷ x / 0x10000 % 256 ∷ x / 0x100 % 256 ∷ x % 256 ∷ []

-- the key block of block i, under the key k by the path number p
abbrev pub key_block : ℕ → List ℕ → ℕ → ℕ → List ℕ
key_block p k first i = encrypt_bytes p k (counter_block ((first + i) % 2 ^ 64))

-- of a call on a panel x under the key k from the number first
pub record Sealed (p : ℕ) (k : List ℕ) (first : ℕ) (x out : List ℕ) : Type 0 where
  -- it is accepted with length 0, and the output is as long as the panel
  pub accepted : (panelling k first x out).number ≡ 0
  pub len : (panelling k first x out).len ≡ 0
  pub size : length (panelling k first x out).bytes ≡ length x
  -- byte i is byte i of the panel exclusive or byte i mod 8 of key block i / 8
  pub byte : (i : ℕ) → i < length x → slice_index (panelling k first x out).bytes i ≡ bit_xor (slice_index x i) (slice_index (key_block p k first (i / 8)) (i % 8))
  -- and bytes, where the panel is
  pub bytes : Bytes x → Bytes (panelling k first x out).bytes
  -- a second time gives the panel
  pub twice : (out' : List ℕ) → length out' ≡ length x → panelling k first (panelling k first x out).bytes out' ≡ record { number = 0; len = 0; bytes = x }

-- ---- the clauses, in the order of the tests

unfoldable pub panel_clauses : List ℕ → List ℕ → List ℕ → List Clause
panel_clauses k x out =
    (1 when (OneOf (8 ∷ 12 ∷ 16 ∷ []) (length k) → ⊥))
    ∷ (3 when (length out ≢ length x))
    ∷ (7 when (65536 < length x))
    ∷ []

-- "Bronze Age.", which is a block and a part of three bytes, and "Bronze Age. Rome.", two blocks and a part of one
abbrev pub bronze_age : List ℕ
bronze_age = 0x42 ∷ 0x72 ∷ 0x6f ∷ 0x6e ∷ 0x7a ∷ 0x65 ∷ 0x20 ∷ 0x41 ∷ 0x67 ∷ 0x65 ∷ 0x2e ∷ []

abbrev pub rome : List ℕ
rome = 0x42 ∷ 0x72 ∷ 0x6f ∷ 0x6e ∷ 0x7a ∷ 0x65 ∷ 0x20 ∷ 0x41 ∷ 0x67 ∷ 0x65 ∷ 0x2e ∷ 0x20 ∷ 0x52 ∷ 0x6f ∷ 0x6d ∷ 0x65 ∷ 0x2e ∷ []

-- calls whole, in plain values: number, length and the output after it; the second program made the sealed panels
pub record PanelCalls : Type 0 where
  -- accepted, with a key of each size: across the wrap, where the first block uses 2^64 - 1 and the part 0; across a carry; and from a number of eight unlike bytes
  pub wraps_4 : panelling key4 0xffffffffffffffff bronze_age (zeros 11)
      ≡ record { number = 0; len = 0; bytes = 0x3e ∷ 0x5b ∷ 0xf6 ∷ 0xb1 ∷ 0x9b ∷ 0x65 ∷ 0xdd ∷ 0x4e ∷ 0xe9 ∷ 0xf6 ∷ 0xf7 ∷ [] }
  pub carries_6 : panelling key6 0x00000000ffffffff rome (zeros 17)
      ≡ record { number = 0; len = 0; bytes = 0x94 ∷ 0x0e ∷ 0xa0 ∷ 0x94 ∷ 0xcf ∷ 0x88 ∷ 0x62 ∷ 0x31 ∷ 0x16 ∷ 0x07 ∷ 0xee ∷ 0xdb ∷ 0xa7 ∷ 0x0d ∷ 0x48 ∷ 0x9d ∷ 0x75 ∷ [] }
  pub counts_8 : panelling key8 0x0123456789abcdef rome (zeros 17)
      ≡ record { number = 0; len = 0; bytes = 0xfd ∷ 0x98 ∷ 0xa4 ∷ 0x88 ∷ 0x50 ∷ 0x55 ∷ 0x92 ∷ 0x62 ∷ 0x08 ∷ 0xd1 ∷ 0x87 ∷ 0xc5 ∷ 0x95 ∷ 0x39 ∷ 0xbf ∷ 0x4f ∷ 0x88 ∷ [] }
  -- a panel of no bytes, and the longest
  pub empty : (first : ℕ) → panelling key4 first [] [] ≡ record { number = 0; len = 0; bytes = [] }
  pub longest : (first : ℕ) → (panelling key4 first (zeros 65536) (zeros 65536)).number ≡ 0
  -- refused, for a key of 9 bytes, for an output of another length, and for 65537 bytes; each also meets those after it
  pub wrong_key_lem : (first : ℕ) → panelling (zeros 9) first (zeros 65537) (replicate 7 5) ≡ record { number = 1; len = 0; bytes = replicate 7 5 }
  pub wrong_span : (first : ℕ) → panelling key4 first (zeros 65537) (replicate 65536 5) ≡ record { number = 3; len = 0; bytes = replicate 65536 5 }
  pub overlong : (first : ℕ) → panelling key4 first (zeros 65537) (replicate 65537 5) ≡ record { number = 7; len = 0; bytes = replicate 65537 5 }

-- the left side of the contract: what each answer of the code means, whatever the output holds
pub record PanelAnswers : Type 0 where
  pub accepted : (bytes : List ℕ) → panel_outcome (Ok tt) bytes ≡ record { number = 0; len = 0; bytes = bytes }
  pub wrong_key_lem : (bytes : List ℕ) → panel_outcome (Err WrongKey) bytes ≡ record { number = 1; len = 0; bytes = bytes }
  pub wrong_span : (bytes : List ℕ) → panel_outcome (Err WrongSpan) bytes ≡ record { number = 3; len = 0; bytes = bytes }
  pub overlong : (bytes : List ℕ) → panel_outcome (Err Overlong) bytes ≡ record { number = 7; len = 0; bytes = bytes }

-- ---- the statement

pub record Panels : Type 0 where
  pub seals : (p : ℕ) (k : List ℕ) (first : ℕ) (x out : List ℕ) → OneOf (8 ∷ 12 ∷ 16 ∷ []) (length k) → length out ≡ length x → length x ≤ 65536 → Sealed p k first x out
  -- a call answers a number exactly if its proposition holds and no earlier one does, and 0 exactly if none holds
  pub exactly : (k : List ℕ) (first : ℕ) (x out : List ℕ) → Exactly (panelling k first x out).number (panel_clauses k x out)
  -- a refusal leaves the output as it was
  pub refused : (k : List ℕ) (first : ℕ) (x out : List ℕ) → ((panelling k first x out).number ≢ 0) → Leaves (panelling k first x out) out
  -- and what the code answers means these numbers
  pub answers : PanelAnswers
  -- a u64 to which d is added n times, wrapping, is first + d × n, wrapped once; the code adds 1 for each block of a walk, and 32 for a walk
  pub advances : (d first n : ℕ) → first < 2 ^ 64 → times n (λ c. (c + d) % 2 ^ 64) first ≡ (first + d * n) % 2 ^ 64
  -- within a panel no two blocks share a counter block
  pub once : (first i j : ℕ) → i < 2 ^ 64 → j < 2 ^ 64 → counter_block ((first + i) % 2 ^ 64) ≡ counter_block ((first + j) % 2 ^ 64) → i ≡ j
  -- under one key, blocks with unlike numbers have unlike key blocks: so do two panels whose numbers don't overlap
  pub apart : (p q : ℕ) (k : List ℕ) (first first' i j : ℕ) → Bytes k → OneOf (8 ∷ 12 ∷ 16 ∷ []) (length k)
      → (first + i) % 2 ^ 64 ≢ (first' + j) % 2 ^ 64 → key_block p k first i ≢ key_block q k first' j
  -- where the panel y begins (length + 7) / 8 numbers after the panel x, no byte of one shares a key block with a byte of the other
  pub next : (p q : ℕ) (k : List ℕ) (first : ℕ) (x y : List ℕ) → Bytes k → OneOf (8 ∷ 12 ∷ 16 ∷ []) (length k) → length x ≤ 65536 → length y ≤ 65536
      → (i j : ℕ) → i < length x → j < length y → key_block p k first (i / 8) ≢ key_block q k ((first + (length x + 7) / 8) % 2 ^ 64) (j / 8)
  -- and a number sooner the last block of x and the first of y do
  pub sooner : (p : ℕ) (k : List ℕ) (first : ℕ) (x : List ℕ) → 0 < length x
      → key_block p k first ((length x - 1) / 8) ≡ key_block p k ((first + ((length x + 7) / 8 - 1)) % 2 ^ 64) 0
  -- each number can be met
  pub calls : PanelCalls
