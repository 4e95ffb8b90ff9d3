-- A loaded key, and a block encrypted and decrypted under it. The crates above take these as they are named and never look inside.
use Rattle.std.specs.Prelude.{ℕ, ◌*◌, Bool, ◌||◌, List, eqb}
use Rattle.schedule.specs.Schedule.{eight_words, back_start}
use Rattle.schedule.specs.declared.Register.{Register}
use Rattle.mcrypton.specs.Bytes.{words_of, bytes_of, encrypt_bytes, decrypt_bytes}
use Rattle.mcrypton.specs.Registers.{encrypt_from, decrypt_from}
use Rattle.octets.specs.Bytes.{if◌then◌otherwise◌}
use Rattle.present.specs.Bytes.{encrypt_bytes as present_encrypt, decrypt_bytes as present_decrypt}
use Rattle.present.specs.Registers.{encrypt_words, decrypt_words}
use Rattle.cipher.specs.declared.Key.{Key}

-- the classes of mCrypton: keys of t words, t = 4, 6 or 8
unfoldable pub mcrypton_class : ℕ → Bool
mcrypton_class t = eqb t 4 || (eqb t 6 || eqb t 8)

-- the classes of PRESENT: keys of 80 bits and of 128
unfoldable pub present_class : ℕ → Bool
present_class t = eqb t 21 || eqb t 24

-- the key classes of all ciphers
unfoldable pub class_known : ℕ → Bool
class_known t = mcrypton_class t || present_class t

-- the bytes of a key of a class
unfoldable pub key_bytes : ℕ → ℕ
key_bytes t = if eqb t 21 then 10 otherwise if eqb t 24 then 16 otherwise 2 * t

-- some class has keys of n bytes
unfoldable pub sheet_key_length : ℕ → Bool
sheet_key_length n = eqb n 8 || (eqb n 10 || (eqb n 12 || eqb n 16))

-- the key k loaded for a class
unfoldable pub loaded : ℕ → List ℕ → Key
loaded class k = record { class = class; words = eight_words (words_of k) }

-- the register of round 0 of a loaded key
unfoldable pub key_register : Key → Register
key_register k = record { words = k.words; count = k.class; round = 0 }

-- a block encrypted and decrypted under a loaded key; path number 0 is the meaning of document 000, and every other gives the same
unfoldable pub mcrypton_encrypted : Key → List ℕ → List ℕ
mcrypton_encrypted k b = bytes_of (encrypt_from 0 (key_register k) (words_of b))

unfoldable pub mcrypton_decrypted : Key → List ℕ → List ℕ
mcrypton_decrypted k b = bytes_of (decrypt_from 0 (back_start (key_register k)) (words_of b))

-- the class chooses the cipher
unfoldable pub encrypted : Key → List ℕ → List ℕ
encrypted k b = if present_class k.class then encrypt_words (eqb k.class 24) k.words b otherwise mcrypton_encrypted k b

unfoldable pub decrypted : Key → List ℕ → List ℕ
decrypted k b = if present_class k.class then decrypt_words (eqb k.class 24) k.words b otherwise mcrypton_decrypted k b

-- what a class means: a block encrypted and decrypted under the key k of a class, by the path number p where its cipher has one
unfoldable pub encrypt_by : ℕ → ℕ → List ℕ → List ℕ → List ℕ
encrypt_by class p k b = if present_class class then present_encrypt k b otherwise encrypt_bytes p k b

unfoldable pub decrypt_by : ℕ → ℕ → List ℕ → List ℕ → List ℕ
decrypt_by class p k b = if present_class class then present_decrypt k b otherwise decrypt_bytes p k b
