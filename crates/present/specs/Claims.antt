-- What is claimed of PRESENT: under every key of 10 or 16 bytes it takes blocks to blocks, and decrypting and encrypting undo each other.
use Rattle.std.specs.Prelude.{ℕ, List, [], ◌∷◌, length}
use Rattle.octets.specs.Bytes.{Bytes}
use Rattle.octets.specs.Block.{Invertible}
use Rattle.octets.specs.Clauses.{OneOf}
use Rattle.present.specs.Bytes.{encrypt_bytes, decrypt_bytes}

pub record Present : Type 0 where
  pub claims : (k : List ℕ) → Bytes k → OneOf (10 ∷ 16 ∷ []) (length k) → Invertible (encrypt_bytes k) (decrypt_bytes k)
