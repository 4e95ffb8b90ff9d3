-- Demand 1, of the calls on one block: which number a call answers, and what it leaves.
use Rattle.std.specs.Prelude.{ℕ, ◌≡◌, [], ◌∷◌, replicate}
use Rattle.octets.specs.Bytes.{zeros}
use Rattle.octets.specs.BlockCalls.{Refusals}
use Rattle.mcrypton.specs.Bytes.{encrypt_bytes, decrypt_bytes}
use Rattle.mcrypton.specs.Calls.{encrypting, decrypting}
use Rattle.mcrypton.specs.Vectors.{key4, key6, key8, block}

-- calls whole, in plain values: number, length and the output after it
pub record BlockCalls : Type 0 where
  -- accepted, with a key of each size
  pub encrypt_4 : encrypting 0 key4 block (zeros 8) ≡ record { number = 0; len = 0; bytes = 0x6d ∷ 0x36 ∷ 0xf5 ∷ 0x95 ∷ 0xbc ∷ 0x53 ∷ 0x69 ∷ 0x58 ∷ [] }
  pub decrypt_4 : decrypting 0 key4 block (zeros 8) ≡ record { number = 0; len = 0; bytes = 0x66 ∷ 0x2f ∷ 0x3b ∷ 0x4e ∷ 0xa4 ∷ 0xba ∷ 0xce ∷ 0x4e ∷ [] }
  pub encrypt_6 : encrypting 0 key6 block (zeros 8) ≡ record { number = 0; len = 0; bytes = 0x00 ∷ 0x6c ∷ 0x52 ∷ 0x2a ∷ 0x6e ∷ 0x57 ∷ 0xb6 ∷ 0xd5 ∷ [] }
  pub decrypt_6 : decrypting 0 key6 block (zeros 8) ≡ record { number = 0; len = 0; bytes = 0xe1 ∷ 0x27 ∷ 0x96 ∷ 0x27 ∷ 0xe5 ∷ 0xef ∷ 0xcb ∷ 0x66 ∷ [] }
  pub encrypt_8 : encrypting 0 key8 block (zeros 8) ≡ record { number = 0; len = 0; bytes = 0x80 ∷ 0xbd ∷ 0x6f ∷ 0xb5 ∷ 0x41 ∷ 0x88 ∷ 0x59 ∷ 0x28 ∷ [] }
  pub decrypt_8 : decrypting 0 key8 block (zeros 8) ≡ record { number = 0; len = 0; bytes = 0xc1 ∷ 0xc9 ∷ 0x70 ∷ 0xa8 ∷ 0x7a ∷ 0x6a ∷ 0xf9 ∷ 0x6a ∷ [] }
  -- refused: for a key of 9 bytes; for a block, and for an output, of 7
  pub encrypt_key : encrypting 0 (zeros 9) block (replicate 8 5) ≡ record { number = 1; len = 0; bytes = replicate 8 5 }
  pub decrypt_key : decrypting 0 (zeros 9) block (replicate 8 5) ≡ record { number = 1; len = 0; bytes = replicate 8 5 }
  pub encrypt_block_lem : encrypting 0 key4 (zeros 7) (replicate 8 5) ≡ record { number = 3; len = 0; bytes = replicate 8 5 }
  pub decrypt_block_lem : decrypting 0 key4 (zeros 7) (replicate 8 5) ≡ record { number = 3; len = 0; bytes = replicate 8 5 }
  pub encrypt_output : encrypting 0 key4 block (replicate 7 5) ≡ record { number = 3; len = 0; bytes = replicate 7 5 }
  pub decrypt_output : decrypting 0 key4 block (replicate 7 5) ≡ record { number = 3; len = 0; bytes = replicate 7 5 }

pub record BlockRefusals : Type 0 where
  pub encrypt : (p : ℕ) → Refusals (8 ∷ 12 ∷ 16 ∷ []) (encrypting p) (encrypt_bytes p)
  pub decrypt : (p : ℕ) → Refusals (8 ∷ 12 ∷ 16 ∷ []) (decrypting p) (decrypt_bytes p)
  pub calls : BlockCalls
