-- What holds of CBC and CMAC over any invertible cipher with a block of 8 bytes.
use Rattle.std.specs.Prelude.{ℕ, ◌+◌, ◌*◌, ◌<◌, ◌≡◌, List, ◌++◌, length, drop}
use Rattle.octets.specs.Bytes.{Bytes, zeros, part}
use Rattle.octets.specs.Block.{ByteBlock}
use Rattle.modes.specs.Cbc.{cbc_encrypt, cbc_decrypt}
use Rattle.modes.specs.Cmac.{piece, block_count, chain, chain_value, cmac}

-- a text of n blocks of 8 bytes
pub record ByteBlocks (n : ℕ) (x : List ℕ) : Type 0 where
  pub size : length x ≡ 8 * n
  pub bytes : Bytes x

pub record Cbc (E D : List ℕ → List ℕ) : Type 0 where
  -- n blocks in, n blocks out
  pub encrypts : (n : ℕ) (c p : List ℕ) → ByteBlock c → ByteBlocks n p → ByteBlocks n (cbc_encrypt E n c p)
  pub decrypts : (n : ℕ) (c s : List ℕ) → ByteBlock c → ByteBlocks n s → ByteBlocks n (cbc_decrypt D n c s)
  -- each undoes the other
  pub decrypt_encrypt : (n : ℕ) (c p : List ℕ) → ByteBlock c → ByteBlocks n p → cbc_decrypt D n c (cbc_encrypt E n c p) ≡ p
  pub encrypt_decrypt : (n : ℕ) (c s : List ℕ) → ByteBlock c → ByteBlocks n s → cbc_encrypt E n c (cbc_decrypt D n c s) ≡ s
  -- m blocks and then n, going on from the last of C_0 … C_m
  pub encrypt_split : (m n : ℕ) (c p : List ℕ) → ByteBlock c → ByteBlocks (m + n) p
      → cbc_encrypt E (m + n) c p ≡ cbc_encrypt E m c p ++ cbc_encrypt E n (part (c ++ cbc_encrypt E m c p) (8 * m) 8) (drop (8 * m) p)
  pub decrypt_split : (m n : ℕ) (c s : List ℕ) → ByteBlock c → ByteBlocks (m + n) s
      → cbc_decrypt D (m + n) c s ≡ cbc_decrypt D m c s ++ cbc_decrypt D n (part (c ++ s) (8 * m) 8) (drop (8 * m) s)

pub record Cmac (E : List ℕ → List ℕ) : Type 0 where
  -- a block
  pub authenticates : (m : List ℕ) → Bytes m → ByteBlock (cmac E m)
  -- a message of which x is the first k blocks goes on from the value that x led to
  pub split : (k : ℕ) (x y : List ℕ) → length x ≡ 8 * k → 0 < length y
      → cmac E (x ++ y) ≡ chain_value E (chain E (zeros 8) (piece x) k) y (block_count y)

pub record Modes (E D : List ℕ → List ℕ) : Type 0 where
  pub cbc : Cbc E D
  pub authentication : Cmac E
