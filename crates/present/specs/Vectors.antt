-- The test vectors of the paper's appendix for 80 bits, those of its authors for 128 bits, and two of the second program.
use Rattle.std.specs.Prelude.{◌≡◌, List, [], ◌∷◌, ℕ, replicate, take}
use Rattle.octets.specs.Bytes.{zeros}
use Rattle.present.specs.Bytes.{encrypt_bytes, decrypt_bytes}

-- n bytes of ones
abbrev pub ones : ℕ → List ℕ
ones n = replicate n 0xFF

-- the bytes 0, 1, 2 .. up to n of them, of sixteen
abbrev pub rising : ℕ → List ℕ
rising n = take n (0 ∷ 1 ∷ 2 ∷ 3 ∷ 4 ∷ 5 ∷ 6 ∷ 7 ∷ 8 ∷ 9 ∷ 10 ∷ 11 ∷ 12 ∷ 13 ∷ 14 ∷ 15 ∷ [])

-- the key k takes the block b to c, and back
pub record Vector (k b c : List ℕ) : Type 0 where
  pub encrypts : encrypt_bytes k b ≡ c
  pub decrypts : decrypt_bytes k c ≡ b

pub record Vectors : Type 0 where
  pub zero_zero_80 : Vector (zeros 10) (zeros 8) (0x55 ∷ 0x79 ∷ 0xC1 ∷ 0x38 ∷ 0x7B ∷ 0x22 ∷ 0x84 ∷ 0x45 ∷ [])
  pub ones_zero_80 : Vector (ones 10) (zeros 8) (0xE7 ∷ 0x2C ∷ 0x46 ∷ 0xC0 ∷ 0xF5 ∷ 0x94 ∷ 0x50 ∷ 0x49 ∷ [])
  pub zero_ones_80 : Vector (zeros 10) (ones 8) (0xA1 ∷ 0x12 ∷ 0xFF ∷ 0xC7 ∷ 0x2F ∷ 0x68 ∷ 0x41 ∷ 0x7B ∷ [])
  pub ones_ones_80 : Vector (ones 10) (ones 8) (0x33 ∷ 0x33 ∷ 0xDC ∷ 0xD3 ∷ 0x21 ∷ 0x32 ∷ 0x10 ∷ 0xD2 ∷ [])
  pub zero_zero_128 : Vector (zeros 16) (zeros 8) (0x96 ∷ 0xDB ∷ 0x70 ∷ 0x2A ∷ 0x2E ∷ 0x69 ∷ 0x00 ∷ 0xAF ∷ [])
  pub ones_zero_128 : Vector (ones 16) (zeros 8) (0x13 ∷ 0x23 ∷ 0x8C ∷ 0x71 ∷ 0x02 ∷ 0x72 ∷ 0xA5 ∷ 0xD8 ∷ [])
  pub zero_ones_128 : Vector (zeros 16) (ones 8) (0x3C ∷ 0x60 ∷ 0x19 ∷ 0xE5 ∷ 0xE5 ∷ 0xED ∷ 0xD5 ∷ 0x63 ∷ [])
  pub ones_ones_128 : Vector (ones 16) (ones 8) (0x62 ∷ 0x8D ∷ 0x9F ∷ 0xBD ∷ 0x42 ∷ 0x18 ∷ 0xE5 ∷ 0xB4 ∷ [])
  -- of the second program: bytes that all differ, so that each has its place
  pub rising_80 : Vector (rising 10) (0x01 ∷ 0x23 ∷ 0x45 ∷ 0x67 ∷ 0x89 ∷ 0xAB ∷ 0xCD ∷ 0xEF ∷ []) (0xF7 ∷ 0xF0 ∷ 0xBF ∷ 0xAF ∷ 0xD3 ∷ 0xCE ∷ 0xB0 ∷ 0x6C ∷ [])
  pub rising_128 : Vector (rising 16) (0x01 ∷ 0x23 ∷ 0x45 ∷ 0x67 ∷ 0x89 ∷ 0xAB ∷ 0xCD ∷ 0xEF ∷ []) (0x0E ∷ 0x3D ∷ 0xCA ∷ 0xFF ∷ 0x31 ∷ 0x1F ∷ 0x18 ∷ 0x09 ∷ [])
