-- What a public call on one block answers and leaves in the output, whatever the cipher.
use Rattle.std.specs.Prelude.{ℕ, ◌≡◌, Bool, not, ◌&&◌, List, [], ◌∷◌, eqb, length, Result, Ok, Err}
use Rattle.octets.specs.Outcome.{Outcome, Row, ◌gives◌, decided}
use Rattle.octets.specs.Clauses.{Clause, ◌when◌, Exactly, OneOf}
use Rattle.octets.specs.declared.BlockError.{BlockError}
use Rattle.octets.specs.declared.BlockError.TheVariants.{WrongKey, WrongSpan}

-- the paper's number of each refusal
abbrev pub error_number : BlockError → ℕ
error_number WrongKey = 1
error_number WrongSpan = 3

-- and of each answer: 0 is accepted. The length is always 0
abbrev pub block_number : Result Unit BlockError → ℕ
block_number (Ok done) = 0
block_number (Err e) = error_number e

unfoldable pub block_outcome : Result Unit BlockError → List ℕ → Outcome
block_outcome a bytes = record { number = block_number a; len = 0; bytes = bytes }

-- the tests, in their order: the key k, where has_key says which lengths a key has, then the block b and the output out
unfoldable pub block_tests : (ℕ → Bool) → List ℕ → List ℕ → List ℕ → List (Row BlockError)
block_tests has_key k b out =
    (not (has_key (length k)) gives WrongKey)
    ∷ (not (eqb (length b) 8 && eqb (length out) 8) gives WrongSpan)
    ∷ []

-- a call that makes the block new, to the output out; a refusal leaves the output as it was
unfoldable pub block_call : (ℕ → Bool) → List ℕ → List ℕ → List ℕ → List ℕ → Outcome
block_call has_key k b out new = decided (block_tests has_key k b out) (block_outcome (Ok tt) new) (λ e. block_outcome (Err e) out)

-- ---- the same in propositions, where lengths lists the lengths that a key has

unfoldable pub block_clauses : List ℕ → List ℕ → List ℕ → List ℕ → List Clause
block_clauses lengths k b out =
    (1 when (OneOf lengths (length k) → ⊥))
    ∷ (3 when ((length b ≡ 8) × (length out ≡ 8) → ⊥))
    ∷ []

-- length 0, and these bytes
pub record Leaves (o : Outcome) (bytes : List ℕ) : Type 0 where
  pub len : o.len ≡ 0
  pub bytes_are : o.bytes ≡ bytes

-- of a call on the key k, the block b and the output out, which is to make the block that made gives
pub record Refusals (lengths : List ℕ) (call : List ℕ → List ℕ → List ℕ → Outcome) (made : List ℕ → List ℕ → List ℕ) : Type 0 where
  pub exactly : (k b out : List ℕ) → Exactly (call k b out).number (block_clauses lengths k b out)
  pub refused : (k b out : List ℕ) → ((call k b out).number ≡ 0 → ⊥) → Leaves (call k b out) out
  pub accepted : (k b out : List ℕ) → (call k b out).number ≡ 0 → Leaves (call k b out) (made k b)
