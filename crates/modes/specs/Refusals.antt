-- Demand 1, of the public CMAC: which number a call answers, and what it leaves.
use Rattle.std.specs.Prelude.{ℕ, ◌≡◌, List, [], ◌∷◌, length, replicate}
use Rattle.octets.specs.Bytes.{zeros}
use Rattle.octets.specs.Clauses.{Clause, ◌when◌, Exactly, OneOf}
use Rattle.octets.specs.BlockCalls.{Leaves}
use Rattle.mcrypton.specs.Bytes.{encrypt_bytes}
use Rattle.mcrypton.specs.Vectors.{key4, key6, key8}
use Rattle.modes.specs.Cmac.{cmac}
use Rattle.modes.specs.Answers.{authenticating}

unfoldable pub mac_clauses : List ℕ → List ℕ → List Clause
mac_clauses k out =
    (1 when (OneOf (8 ∷ 12 ∷ 16 ∷ []) (length k) → ⊥))
    ∷ (3 when (length out ≡ 8 → ⊥))
    ∷ []

-- calls whole, in plain values: number, length and the output after it; the second program made the tags
pub record MacCalls : Type 0 where
  -- accepted, with a key of each size
  pub mac_4 : authenticating key4 (1 ∷ 2 ∷ 3 ∷ 4 ∷ 5 ∷ 6 ∷ 7 ∷ 8 ∷ 9 ∷ []) (zeros 8)
      ≡ record { number = 0; len = 0; bytes = 0x86 ∷ 0x6a ∷ 0x87 ∷ 0x1c ∷ 0x14 ∷ 0xf0 ∷ 0x36 ∷ 0x50 ∷ [] }
  pub mac_6 : authenticating key6 (1 ∷ 2 ∷ 3 ∷ 4 ∷ 5 ∷ 6 ∷ 7 ∷ 8 ∷ 9 ∷ []) (zeros 8)
      ≡ record { number = 0; len = 0; bytes = 0x8b ∷ 0x05 ∷ 0xcc ∷ 0x03 ∷ 0x2e ∷ 0xf2 ∷ 0x7d ∷ 0x58 ∷ [] }
  pub mac_8 : authenticating key8 (1 ∷ 2 ∷ 3 ∷ 4 ∷ 5 ∷ 6 ∷ 7 ∷ 8 ∷ 9 ∷ []) (zeros 8)
      ≡ record { number = 0; len = 0; bytes = 0x16 ∷ 0x69 ∷ 0x10 ∷ 0x2d ∷ 0xf8 ∷ 0xf9 ∷ 0xf6 ∷ 0x95 ∷ [] }
  -- of the empty message
  pub empty : authenticating key4 [] (zeros 8) ≡ record { number = 0; len = 0; bytes = 0x45 ∷ 0x8c ∷ 0x78 ∷ 0xc4 ∷ 0x09 ∷ 0xd6 ∷ 0x7d ∷ 0xdb ∷ [] }
  -- refused, for a key of 9 bytes and for an output of 7
  pub wrong_key_lem : authenticating (zeros 9) [] (replicate 8 5) ≡ record { number = 1; len = 0; bytes = replicate 8 5 }
  pub wrong_span : authenticating key4 [] (replicate 7 5) ≡ record { number = 3; len = 0; bytes = replicate 7 5 }

pub record MacRefusals : Type 0 where
  pub exactly : (k m out : List ℕ) → Exactly (authenticating k m out).number (mac_clauses k out)
  pub refused : (k m out : List ℕ) → ((authenticating k m out).number ≡ 0 → ⊥) → Leaves (authenticating k m out) out
  pub accepted : (k m out : List ℕ) → (authenticating k m out).number ≡ 0 → Leaves (authenticating k m out) (cmac (encrypt_bytes 0 k) m)
  pub calls : MacCalls
