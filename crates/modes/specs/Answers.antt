-- The answers of the public CMAC, and the order of its tests.
use Rattle.std.specs.Prelude.{ℕ, not, List, [], ◌∷◌, eqb, length, Ok, Err}
use Rattle.octets.specs.Outcome.{Outcome, ◌gives◌, decided}
use Rattle.octets.specs.BlockCalls.{block_outcome}
use Rattle.octets.specs.declared.BlockError.TheVariants.{WrongKey, WrongSpan}
use Rattle.mcrypton.specs.Bytes.{key_length, encrypt_bytes}
use Rattle.modes.specs.Cmac.{cmac}

-- CMAC of the message m under the key k, to an output of 8 bytes. All paths agree; 0 is one of them
unfoldable pub authenticating : List ℕ → List ℕ → List ℕ → Outcome
authenticating k m out =
    decided
    ((not (key_length (length k)) gives WrongKey)
    ∷ (not (eqb (length out) 8) gives WrongSpan)
    ∷ [])
    (block_outcome (Ok tt) (cmac (encrypt_bytes 0 k) m))
    (λ e. block_outcome (Err e) out)
