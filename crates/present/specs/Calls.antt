-- What the public calls on one block answer and leave in the output.
use Rattle.std.specs.Prelude.{ℕ, List}
use Rattle.octets.specs.Outcome.{Outcome}
use Rattle.octets.specs.BlockCalls.{block_call}
use Rattle.present.specs.Bytes.{key_length, encrypt_bytes, decrypt_bytes}

-- encrypting and decrypting the block b under the key k
unfoldable pub encrypting : List ℕ → List ℕ → List ℕ → Outcome
encrypting k b out = block_call key_length k b out (encrypt_bytes k b)

unfoldable pub decrypting : List ℕ → List ℕ → List ℕ → Outcome
decrypting k b out = block_call key_length k b out (decrypt_bytes k b)
