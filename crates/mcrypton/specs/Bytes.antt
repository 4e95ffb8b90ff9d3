-- Keys and blocks as bytes, high byte first.
use Rattle.std.specs.Prelude.{ℕ, ◌+◌, ◌*◌, ◌/◌, ◌%◌, Bool, ◌||◌, List, [], ◌∷◌, eqb}
use Rattle.mcrypton.specs.Cipher.{encrypt_block, decrypt_block}

-- a key has 8, 12 or 16 bytes
unfoldable pub key_length : ℕ → Bool
key_length n = eqb n 8 || (eqb n 12 || eqb n 16)

-- the words of a list of bytes; an odd byte at the end is left out
unfoldable pub words_of : List ℕ → List ℕ
words_of [] = []
words_of (x ∷ []) = []
words_of (x ∷ (y ∷ s)) = (x * 256 + y) ∷ words_of s

-- the bytes of a list of words
unfoldable pub bytes_of : List ℕ → List ℕ
bytes_of [] = []
bytes_of (w ∷ u) = (w / 256) ∷ (w % 256) ∷ bytes_of u

-- the block b encrypted and decrypted under the key k, all as bytes, by the path number p
unfoldable pub encrypt_bytes : ℕ → List ℕ → List ℕ → List ℕ
encrypt_bytes p k b = bytes_of (encrypt_block p (words_of k) (words_of b))

unfoldable pub decrypt_bytes : ℕ → List ℕ → List ℕ → List ℕ
decrypt_bytes p k b = bytes_of (decrypt_block p (words_of k) (words_of b))
