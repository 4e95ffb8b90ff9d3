-- What a block cipher promises about a block: this, and nothing else, is what the crates above rest on.
use Rattle.std.specs.Prelude.{ℕ, ◌≡◌, true, List, length}
use Rattle.octets.specs.Bytes.{Bytes}
use Rattle.octets.specs.Block.{Invertible}
use Rattle.mcrypton.specs.Bytes.{encrypt_bytes, decrypt_bytes}
use Rattle.present.specs.Bytes.{encrypt_bytes as present_encrypt, decrypt_bytes as present_decrypt}
use Rattle.cipher.specs.Key.{class_known, key_bytes, loaded, encrypted, decrypted, encrypt_by, decrypt_by}

-- a key k of a known class: bytes, and as many as the class has
pub record ClassKey (class : ℕ) (k : List ℕ) : Type 0 where
  pub known : class_known class ≡ true
  pub size : length k ≡ key_bytes class
  pub bytes : Bytes k

-- the class means mCrypton, whatever the key, the block and the path number
pub record MeansMcrypton (class : ℕ) : Type 0 where
  pub encrypts : (p : ℕ) (k b : List ℕ) → encrypt_by class p k b ≡ encrypt_bytes p k b
  pub decrypts : (p : ℕ) (k b : List ℕ) → decrypt_by class p k b ≡ decrypt_bytes p k b

-- the class means PRESENT, whatever the key, the block and the path number
pub record MeansPresent (class : ℕ) : Type 0 where
  pub encrypts : (p : ℕ) (k b : List ℕ) → encrypt_by class p k b ≡ present_encrypt k b
  pub decrypts : (p : ℕ) (k b : List ℕ) → decrypt_by class p k b ≡ present_decrypt k b

-- the cipher of each class
pub record ClassCiphers : Type 0 where
  pub class_4 : MeansMcrypton 4
  pub class_6 : MeansMcrypton 6
  pub class_8 : MeansMcrypton 8
  pub class_21 : MeansPresent 21
  pub class_24 : MeansPresent 24

-- the promise of every loaded key
pub record Promise (class : ℕ) (k : List ℕ) : Type 0 where
  -- a block encrypted and decrypted under it
  pub invertible : Invertible (encrypted (loaded class k)) (decrypted (loaded class k))
  -- it is the cipher of its class, by whatever path numbers
  pub encrypts : (p : ℕ) (b : List ℕ) → encrypted (loaded class k) b ≡ encrypt_by class p k b
  pub decrypts : (p : ℕ) (b : List ℕ) → decrypted (loaded class k) b ≡ decrypt_by class p k b
  -- and so for any two path numbers
  pub by_paths_lem : (p q : ℕ) → Invertible (encrypt_by class p k) (decrypt_by class q k)
  -- and which cipher that is
  pub ciphers : ClassCiphers
