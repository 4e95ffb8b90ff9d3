-- What the public calls on one block answer and leave in the output.
use Rattle.std.specs.Prelude.{ℕ, List}
use Rattle.octets.specs.Outcome.{Outcome}
use Rattle.octets.specs.BlockCalls.{block_call}
use Rattle.rounds.specs.declared.Direction.{Direction}
use Rattle.rounds.specs.declared.Direction.TheVariants.{Encrypt, Decrypt}
use Rattle.mcrypton.specs.Bytes.{key_length, encrypt_bytes, decrypt_bytes}

-- encrypting and decrypting the block b under the key k by the path number p
unfoldable pub encrypting : ℕ → List ℕ → List ℕ → List ℕ → Outcome
encrypting p k b out = block_call key_length k b out (encrypt_bytes p k b)

unfoldable pub decrypting : ℕ → List ℕ → List ℕ → List ℕ → Outcome
decrypting p k b out = block_call key_length k b out (decrypt_bytes p k b)

-- either, by a direction
abbrev pub crypting : Direction → ℕ → List ℕ → List ℕ → List ℕ → Outcome
crypting Encrypt = encrypting
crypting Decrypt = decrypting
