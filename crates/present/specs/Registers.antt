-- Keys that are given as words: the register of one, a block under one, and what it is that words spell a key.
use Rattle.std.specs.Prelude.{ℕ, ◌+◌, ◌*◌, ◌<◌, ◌≡◌, Bool, List, get_or, length}
use Rattle.octets.specs.Bytes.{if◌then◌otherwise◌, be, number}
use Rattle.present_schedule.specs.Registers.{KeyRegister, keys_from}
use Rattle.present.specs.Present.{encrypt, decrypt}

-- the number that the four words of w from place a spell
abbrev pub four_words : List ℕ → ℕ → ℕ
four_words w a = ((get_or w a 0 * 65536 + get_or w (a + 1) 0) * 65536 + get_or w (a + 2) 0) * 65536 + get_or w (a + 3) 0

-- the register of a key given as words: eight of them, or five and zeros
unfoldable pub register_of : Bool → List ℕ → KeyRegister
register_of wide w = record { high = four_words w 0; low = if wide then four_words w 4 otherwise get_or w 4 0; wide = wide }

-- the block b, as bytes, encrypted and decrypted under the key given as words
unfoldable pub encrypt_words : Bool → List ℕ → List ℕ → List ℕ
encrypt_words wide w b = be 8 (encrypt (keys_from (register_of wide w)) (number b))

unfoldable pub decrypt_words : Bool → List ℕ → List ℕ → List ℕ
decrypt_words wide w b = be 8 (decrypt (keys_from (register_of wide w)) (number b))

-- w spells the key k: word i is bytes 2 * i and 2 * i + 1
pub record Spells (w k : List ℕ) : Type 0 where
  pub at : (i : ℕ) → 2 * i + 1 < length k → get_or w i 0 ≡ get_or k (2 * i) 0 * 256 + get_or k (2 * i + 1) 0
