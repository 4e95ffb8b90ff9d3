-- A cipher with blocks of 64 bits, as any of them is asked for.
use Rattle.std.specs.Prelude.{ℕ, ◌≡◌, List, length}
use Rattle.octets.specs.Bytes.{Bytes}

-- a block of 8 bytes
pub record ByteBlock (x : List ℕ) : Type 0 where
  pub size : length x ≡ 8
  pub bytes : Bytes x

-- E and D take blocks to blocks, and each undoes the other
pub record Invertible (E D : List ℕ → List ℕ) : Type 0 where
  pub encrypts : (x : List ℕ) → ByteBlock x → ByteBlock (E x)
  pub decrypts : (x : List ℕ) → ByteBlock x → ByteBlock (D x)
  pub decrypt_encrypt : (x : List ℕ) → ByteBlock x → D (E x) ≡ x
  pub encrypt_decrypt : (x : List ℕ) → ByteBlock x → E (D x) ≡ x
