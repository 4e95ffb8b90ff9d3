-- Keys and blocks as bytes, high byte first.
use Rattle.std.specs.Prelude.{ℕ, Bool, ◌||◌, List, eqb, length}
use Rattle.octets.specs.Bytes.{if◌then◌otherwise◌, be, number}
use Rattle.present.specs.Present.{encrypt, decrypt}
use Rattle.present_schedule.specs.Schedule.{round_key80, round_key128}

-- a key has 10 or 16 bytes
unfoldable pub key_length : ℕ → Bool
key_length n = eqb n 10 || eqb n 16

-- K_1 to K_32 of a key
unfoldable pub round_keys : List ℕ → ℕ → ℕ
round_keys k i = if eqb (length k) 10 then round_key80 (number k) i otherwise round_key128 (number k) i

-- the block b encrypted and decrypted under the key k
unfoldable pub encrypt_bytes : List ℕ → List ℕ → List ℕ
encrypt_bytes k b = be 8 (encrypt (round_keys k) (number b))

unfoldable pub decrypt_bytes : List ℕ → List ℕ → List ℕ
decrypt_bytes k b = be 8 (decrypt (round_keys k) (number b))
