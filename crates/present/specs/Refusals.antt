-- Which number a call on one block answers, and what it leaves.
use Rattle.std.specs.Prelude.{◌≡◌, [], ◌∷◌, replicate}
use Rattle.octets.specs.Bytes.{zeros}
use Rattle.octets.specs.BlockCalls.{Refusals}
use Rattle.present.specs.Bytes.{encrypt_bytes, decrypt_bytes}
use Rattle.present.specs.Calls.{encrypting, decrypting}
use Rattle.present.specs.Vectors.{ones}

-- calls whole, in plain values: number, length and the output after it
pub record BlockCalls : Type 0 where
  -- accepted, with a key of each size: vectors of the authors
  pub encrypt_80 : encrypting (zeros 10) (zeros 8) (zeros 8) ≡ record { number = 0; len = 0; bytes = 0x55 ∷ 0x79 ∷ 0xC1 ∷ 0x38 ∷ 0x7B ∷ 0x22 ∷ 0x84 ∷ 0x45 ∷ [] }
  pub decrypt_80 : decrypting (zeros 10) (0xA1 ∷ 0x12 ∷ 0xFF ∷ 0xC7 ∷ 0x2F ∷ 0x68 ∷ 0x41 ∷ 0x7B ∷ []) (zeros 8)
      ≡ record { number = 0; len = 0; bytes = 0xFF ∷ 0xFF ∷ 0xFF ∷ 0xFF ∷ 0xFF ∷ 0xFF ∷ 0xFF ∷ 0xFF ∷ [] }
  pub encrypt_128 : encrypting (ones 16) (zeros 8) (zeros 8) ≡ record { number = 0; len = 0; bytes = 0x13 ∷ 0x23 ∷ 0x8C ∷ 0x71 ∷ 0x02 ∷ 0x72 ∷ 0xA5 ∷ 0xD8 ∷ [] }
  pub decrypt_128 : decrypting (zeros 16) (0x3C ∷ 0x60 ∷ 0x19 ∷ 0xE5 ∷ 0xE5 ∷ 0xED ∷ 0xD5 ∷ 0x63 ∷ []) (zeros 8)
      ≡ record { number = 0; len = 0; bytes = 0xFF ∷ 0xFF ∷ 0xFF ∷ 0xFF ∷ 0xFF ∷ 0xFF ∷ 0xFF ∷ 0xFF ∷ [] }
  -- refused: for a key of 9 bytes, and of 12; for a block, and for an output, of 7
  pub encrypt_key_9 : encrypting (zeros 9) (zeros 8) (replicate 8 5) ≡ record { number = 1; len = 0; bytes = replicate 8 5 }
  pub decrypt_key_9 : decrypting (zeros 9) (zeros 8) (replicate 8 5) ≡ record { number = 1; len = 0; bytes = replicate 8 5 }
  pub encrypt_key_12 : encrypting (zeros 12) (zeros 8) (replicate 8 5) ≡ record { number = 1; len = 0; bytes = replicate 8 5 }
  pub decrypt_key_12 : decrypting (zeros 12) (zeros 8) (replicate 8 5) ≡ record { number = 1; len = 0; bytes = replicate 8 5 }
  pub encrypt_block_lem : encrypting (zeros 10) (zeros 7) (replicate 8 5) ≡ record { number = 3; len = 0; bytes = replicate 8 5 }
  pub decrypt_block_lem : decrypting (zeros 10) (zeros 7) (replicate 8 5) ≡ record { number = 3; len = 0; bytes = replicate 8 5 }
  pub encrypt_output : encrypting (zeros 16) (zeros 8) (replicate 7 5) ≡ record { number = 3; len = 0; bytes = replicate 7 5 }
  pub decrypt_output : decrypting (zeros 16) (zeros 8) (replicate 7 5) ≡ record { number = 3; len = 0; bytes = replicate 7 5 }

pub record BlockRefusals : Type 0 where
  pub encrypt : Refusals (10 ∷ 16 ∷ []) encrypting encrypt_bytes
  pub decrypt : Refusals (10 ∷ 16 ∷ []) decrypting decrypt_bytes
  pub calls : BlockCalls
