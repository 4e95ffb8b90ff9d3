-- Demand 1, of the calls on one block, holds.
use mathlib.Core.Path.{refl}
use Rattle.octets.specs.Bytes.{zeros}
use Rattle.octets.specs.Outcome.{decided}
use Rattle.octets.specs.BlockCalls.{block_outcome, block_tests, block_call}
use Rattle.octets.proofs.BlockCalls.{refusals}
use Rattle.mcrypton.specs.Bytes.{key_length, encrypt_bytes, decrypt_bytes}
use Rattle.mcrypton.specs.Calls.{encrypting, decrypting}
use Rattle.mcrypton.specs.Refusals.{BlockCalls, BlockRefusals}
use Rattle.mcrypton.proofs.KeyLengths.{reflects_length}
use Rattle.mcrypton.proofs.Vectors.{block_vectors}

-- accepted calls by the vectors, refused ones by their tests alone
block_calls : BlockCalls
unfolding encrypting decrypting block_call block_tests block_outcome decided key_length zeros
block_calls =
    record {
      encrypt_4 = rw block_vectors.encrypt_4;
      decrypt_4 = rw block_vectors.decrypt_4;
      encrypt_6 = rw block_vectors.encrypt_6;
      decrypt_6 = rw block_vectors.decrypt_6;
      encrypt_8 = rw block_vectors.encrypt_8;
      decrypt_8 = rw block_vectors.decrypt_8;
      encrypt_key = refl;
      decrypt_key = refl;
      encrypt_block_lem = refl;
      decrypt_block_lem = refl;
      encrypt_output = refl;
      decrypt_output = refl;
    }

pub block_refusals : BlockRefusals
unfolding encrypting decrypting
block_refusals =
    record {
      encrypt = λ p. refusals _ key_length reflects_length (encrypt_bytes p);
      decrypt = λ p. refusals _ key_length reflects_length (decrypt_bytes p);
      calls = block_calls;
    }
