-- The calls on one block answer by their clauses.
use Prim.Native.Nat.{ℕ}
use mathlib.Core.Path.{refl}
use mathlib.Core.List.{[], ◌∷◌}
use Rattle.octets.specs.Bytes.{zeros}
use Rattle.octets.specs.Outcome.{decided}
use Rattle.octets.specs.Clauses.{OneOf}
use Rattle.octets.specs.BlockCalls.{block_outcome, block_tests, block_call}
use Rattle.octets.proofs.Clauses.{Reflects, reflects_or, reflects_eqb}
use Rattle.octets.proofs.BlockCalls.{refusals}
use Rattle.present.specs.Bytes.{key_length, encrypt_bytes, decrypt_bytes}
use Rattle.present.specs.Calls.{encrypting, decrypting}
use Rattle.present.specs.Refusals.{BlockCalls, BlockRefusals}
use Rattle.present.proofs.Vectors.{vectors}

pub reflects_length : (n : ℕ) → Reflects (key_length n) (OneOf (10 ∷ 16 ∷ []) n)
unfolding key_length OneOf
reflects_length n = reflects_or (reflects_eqb n 10) (reflects_eqb n 16)

-- accepted calls by the vectors, refused ones by their tests alone
block_calls : BlockCalls
unfolding encrypting decrypting block_call block_tests block_outcome decided key_length zeros
block_calls =
    record {
      encrypt_80 = rw vectors.zero_zero_80.encrypts;
      decrypt_80 = rw vectors.zero_ones_80.decrypts;
      encrypt_128 = rw vectors.ones_zero_128.encrypts;
      decrypt_128 = rw vectors.zero_ones_128.decrypts;
      encrypt_key_9 = refl;
      decrypt_key_9 = refl;
      encrypt_key_12 = refl;
      decrypt_key_12 = refl;
      encrypt_block_lem = refl;
      decrypt_block_lem = refl;
      encrypt_output = refl;
      decrypt_output = refl;
    }

pub block_refusals : BlockRefusals
unfolding encrypting decrypting
block_refusals =
    record {
      encrypt = refusals _ key_length reflects_length encrypt_bytes;
      decrypt = refusals _ key_length reflects_length decrypt_bytes;
      calls = block_calls;
    }
