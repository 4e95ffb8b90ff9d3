-- Encrypting and decrypting a block (document 000, 2.2; document 01: sealing and opening) by a path number.
use Rattle.std.specs.Prelude.{ℕ, zero, suc, ◌-◌, ◌/◌, ◌%◌, ◌^◌, Bool, List, eqb}
use Rattle.octets.specs.Bytes.{if◌then◌otherwise◌}
use Rattle.rounds.specs.Array.{nibble_round, word_round, σ, φ}
use Rattle.rounds.specs.declared.Direction.{Direction}
use Rattle.rounds.specs.declared.Direction.TheVariants.{Encrypt, Decrypt}
use Rattle.schedule.specs.Schedule.{encryption_key, decryption_key}

-- a meaning of a round: from its key and the array before it, the array after it
abbrev pub Round : Type 0
Round = List ℕ → List ℕ → List ℕ

-- bit r - 1, from the lowest, of the path number p is 1 for the word path in round r
unfoldable pub by_words : ℕ → ℕ → Bool
by_words p r = eqb (p / 2 ^ (r - 1) % 2) 1

-- round r by the path that p chooses, of any two meanings of a round: W by words, N by nibbles
abbrev pub chosen : Round → Round → ℕ → ℕ → Round
chosen W N p r k a = if by_words p r then W k a otherwise N k a

-- the array after σ with round key 0 and rounds 1 to r, by any two meanings of a round
unfoldable pub after_by : Round → Round → ℕ → (ℕ → List ℕ) → List ℕ → ℕ → List ℕ
after_by W N p keys b zero = σ (keys 0) b
after_by W N p keys b (suc r) = chosen W N p (suc r) (keys (suc r)) (after_by W N p keys b r)

-- the same by the two of mCrypton, in a direction
abbrev pub path_round : Direction → ℕ → ℕ → Round
path_round d p r k a = chosen (word_round d) (nibble_round d) p r k a

abbrev pub after : Direction → ℕ → (ℕ → List ℕ) → List ℕ → ℕ → List ℕ
after d p keys b r = after_by (word_round d) (nibble_round d) p keys b r

-- σ with round key 0, rounds 1 to 12, then φ
unfoldable pub steps : Direction → ℕ → (ℕ → List ℕ) → List ℕ → List ℕ
steps d p keys b = φ (after d p keys b 12)

-- the block b encrypted, and the block c decrypted, under the key k by the path number p
unfoldable pub encrypt_block : ℕ → List ℕ → List ℕ → List ℕ
encrypt_block p k b = steps Encrypt p (encryption_key k) b

unfoldable pub decrypt_block : ℕ → List ℕ → List ℕ → List ℕ
decrypt_block p k c = steps Decrypt p (decryption_key k) c
