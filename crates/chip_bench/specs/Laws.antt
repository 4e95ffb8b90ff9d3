-- What is proved of the bench: the block that it answers leads to the wanted array and no other block does, and exactly which calls it refuses.
-- Keys, blocks and arrays are bytes here; an array is 8 bytes, row by row as a block is.
use Rattle.std.specs.Prelude.{ℕ, ◌+◌, ◌≤◌, ◌<◌, ◌≡◌, List, [], ◌∷◌, ◌↔◌, length, replicate}
use Rattle.octets.specs.Bytes.{Bytes, zeros}
use Rattle.octets.specs.Clauses.{Clause, ◌when◌, Exactly, OneOf}
use Rattle.rounds.specs.Array.{Block, σ, φ, nibble_round, inverse_round}
use Rattle.rounds.specs.declared.Direction.{Direction}
use Rattle.rounds.specs.declared.Direction.TheVariants.{Encrypt}
use Rattle.schedule.specs.Schedule.{encryption_key}
use Rattle.mcrypton.specs.Bytes.{words_of, bytes_of, encrypt_bytes}
use Rattle.mcrypton.specs.Cipher.{after}
use Rattle.mcrypton.specs.Vectors.{key4, key6, key8, block}
use Rattle.octets.specs.BlockCalls.{Leaves}
use Rattle.chip_bench.specs.Calls.{benching}

-- ---- the one block

-- the array after round r of the block b, sealed under the key k by the path number p
abbrev pub array_after : ℕ → List ℕ → ℕ → List ℕ → List ℕ
array_after p k r b = bytes_of (after Encrypt p (encryption_key (words_of k)) (words_of b) r)

-- which array that is
pub record Arrays (p : ℕ) (k b : List ℕ) : Type 0 where
  -- r = 0: after the first key addition
  pub first : array_after p k 0 b ≡ bytes_of (σ (encryption_key (words_of k) 0) (words_of b))
  -- one round more: γ, π, τ, and σ with that round's key
  pub next : (r : ℕ) → array_after p k (r + 1) b ≡ bytes_of (nibble_round Encrypt (encryption_key (words_of k) (r + 1)) (words_of (array_after p k r b)))
  -- r = 12: before φ
  pub last : encrypt_bytes p k b ≡ bytes_of (φ (words_of (array_after p k 12 b)))

-- of a call that asks for the wanted array after round r under the key k
pub record OneBlock (k : List ℕ) (r : ℕ) (wanted out : List ℕ) : Type 0 where
  -- it is accepted with length 0, and its output is 8 bytes
  pub accepted : (benching k r wanted out).number ≡ 0
  pub len : (benching k r wanted out).len ≡ 0
  pub size : length (benching k r wanted out).bytes ≡ 8
  pub bytes : Bytes (benching k r wanted out).bytes
  -- by whatever path number, the array of a block after round r is the wanted one exactly if the block is that output
  pub one : (p : ℕ) (b : List ℕ) → Bytes b → length b ≡ 8 → (array_after p k r b ≡ wanted) ↔ (b ≡ (benching k r wanted out).bytes)

-- ---- the clauses, in the order of the tests

unfoldable pub bench_clauses : List ℕ → ℕ → List ℕ → List ℕ → List Clause
bench_clauses k r wanted out =
    (1 when (OneOf (8 ∷ 12 ∷ 16 ∷ []) (length k) → ⊥))
    ∷ (3 when ((length wanted ≡ 8) × (length out ≡ 8) → ⊥))
    ∷ (13 when (12 < r))
    ∷ []

-- calls whole, in plain values: number, length and the output after it; the second program made the blocks
pub record BenchCalls : Type 0 where
  -- accepted, with a key of each size: after the first key addition, after a round, and before φ
  pub round_0 : benching key4 0 block (zeros 8) ≡ record { number = 0; len = 0; bytes = 0x10 ∷ 0x58 ∷ 0xf7 ∷ 0x38 ∷ 0x60 ∷ 0xe8 ∷ 0x48 ∷ 0x56 ∷ [] }
  pub round_5 : benching key6 5 block (zeros 8) ≡ record { number = 0; len = 0; bytes = 0x9e ∷ 0x85 ∷ 0x0f ∷ 0xbb ∷ 0xfb ∷ 0x6f ∷ 0xb8 ∷ 0x24 ∷ [] }
  pub round_12 : benching key8 12 block (zeros 8) ≡ record { number = 0; len = 0; bytes = 0x7e ∷ 0xa8 ∷ 0x27 ∷ 0x21 ∷ 0xad ∷ 0x09 ∷ 0x4e ∷ 0x2f ∷ [] }
  -- refused, for a key of 9 bytes, for an array of 7, for an output of 7, and for round 13; each also meets those after it
  pub wrong_key_lem : benching (zeros 9) 13 (zeros 7) (replicate 7 5) ≡ record { number = 1; len = 0; bytes = replicate 7 5 }
  pub wrong_array : benching key4 13 (zeros 7) (replicate 8 5) ≡ record { number = 3; len = 0; bytes = replicate 8 5 }
  pub wrong_output : benching key4 13 block (replicate 7 5) ≡ record { number = 3; len = 0; bytes = replicate 7 5 }
  pub no_round : benching key4 13 block (replicate 8 5) ≡ record { number = 13; len = 0; bytes = replicate 8 5 }

-- ---- the statement

pub record Bench : Type 0 where
  pub leads : (k : List ℕ) (r : ℕ) (wanted out : List ℕ) → Bytes k → OneOf (8 ∷ 12 ∷ 16 ∷ []) (length k) → r ≤ 12
      → Bytes wanted → length wanted ≡ 8 → length out ≡ 8 → OneBlock k r wanted out
  pub arrays : (p : ℕ) (k b : List ℕ) → Arrays p k b
  -- a round and the round taken back undo each other, in either direction
  pub inverse_round_lem : (d : Direction) (key a : List ℕ) → Block key → Block a → inverse_round d key (nibble_round d key a) ≡ a
  pub round_inverse : (d : Direction) (key a : List ℕ) → Block key → Block a → nibble_round d key (inverse_round d key a) ≡ a
  -- a call answers a number exactly if its proposition holds and no earlier one does, and 0 exactly if none holds
  pub exactly : (k : List ℕ) (r : ℕ) (wanted out : List ℕ) → Exactly (benching k r wanted out).number (bench_clauses k r wanted out)
  -- a refusal leaves the output as it was
  pub refused : (k : List ℕ) (r : ℕ) (wanted out : List ℕ) → ((benching k r wanted out).number ≡ 0 → ⊥) → Leaves (benching k r wanted out) out
  -- each number can be met
  pub calls : BenchCalls
  -- what is asked of an array, where it is held as four words: they are words of 16 bits
  pub block : (a b c d : ℕ) → a < 65536 → b < 65536 → c < 65536 → d < 65536 → Block (a ∷ b ∷ c ∷ d ∷ [])
