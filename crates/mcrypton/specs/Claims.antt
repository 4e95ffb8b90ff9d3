-- Demand 3, first half: what is claimed of a key k of 4, 6 or 8 words.
use Rattle.std.specs.Prelude.{ℕ, suc, ◌+◌, ◌-◌, ◌/◌, ◌%◌, ◌^◌, ◌≤◌, ◌<◌, ◌≡◌, List, [], ◌∷◌, length, get_or}
use Rattle.octets.specs.Clauses.{OneOf}
use Rattle.rounds.specs.Array.{Block, sbox, offset, opposite, π, σ, φ, nibble_round, word_round}
use Rattle.rounds.specs.declared.Direction.{Direction}
use Rattle.rounds.specs.declared.Direction.TheVariants.{Encrypt, Decrypt}
use Rattle.schedule.specs.Schedule.{Key, register, back_register, backward, encryption_key, decryption_key}
use Rattle.mcrypton.specs.Cipher.{Round, after_by, after, encrypt_block, decrypt_block}

-- which of two meanings of a round, W by words and N by nibbles, is taken: bit r - 1 of the path number, from the lowest, stands for round r
pub record PathBits (W N : Round) (keys : ℕ → List ℕ) (b : List ℕ) : Type 0 where
  pub first : (p : ℕ) → after_by W N p keys b 0 ≡ σ (keys 0) b
  pub word : (p r : ℕ) → p / 2 ^ r % 2 ≡ 1 → after_by W N p keys b (suc r) ≡ W (keys (suc r)) (after_by W N p keys b r)
  pub nibble : (p r : ℕ) → p / 2 ^ r % 2 ≡ 0 → after_by W N p keys b (suc r) ≡ N (keys (suc r)) (after_by W N p keys b r)
  -- 0x0805 takes words in rounds 1, 3 and 12
  pub mixed : after_by W N 0x0805 keys b 12
      ≡ W (keys 12) (N (keys 11) (N (keys 10) (N (keys 9) (N (keys 8) (N (keys 7)
      (N (keys 6) (N (keys 5) (N (keys 4) (W (keys 3) (N (keys 2) (W (keys 1) (σ (keys 0) b))))))))))))
  -- the top four bits count for nothing
  pub top : (p : ℕ) → after_by W N (p % 4096) keys b 12 ≡ after_by W N p keys b 12

pub record FirstHalf (k : List ℕ) : Type 0 where
  -- a block is encrypted by σ with round key 0, rounds 1 to 12, each by words or by nibbles as p says, and φ, and decrypted so with the decryption keys
  pub encrypts : (p : ℕ) (b : List ℕ) → encrypt_block p k b ≡ φ (after_by (word_round Encrypt) (nibble_round Encrypt) p (encryption_key k) b 12)
  pub decrypts : (p : ℕ) (c : List ℕ) → decrypt_block p k c ≡ φ (after_by (word_round Decrypt) (nibble_round Decrypt) p (decryption_key k) c 12)
  pub bits : (W N : Round) (keys : ℕ → List ℕ) (b : List ℕ) → PathBits W N keys b
  -- decrypting by any path number undoes encrypting by any path number, and the other way round
  pub opens : (p q : ℕ) (b : List ℕ) → Block b → decrypt_block q k (encrypt_block p k b) ≡ b
  pub seals : (p q : ℕ) (c : List ℕ) → Block c → encrypt_block p k (decrypt_block q k c) ≡ c
  -- the backward register after r steps back is the forward one at round 12 - r: words, count and round
  pub registers : (r : ℕ) → r ≤ 12 → back_register k r ≡ register k (12 - r)
  -- decryption key r is φ of encryption key 12 - r
  pub keys : (r : ℕ) → r ≤ 12 → decryption_key k r ≡ φ (encryption_key k (12 - r))
  -- a backward step undoes a forward one
  pub undoes : (r : ℕ) → r < 12 → backward (register k (r + 1)) ≡ register k r
  -- each S-box of one direction undoes that of the other, and π undoes itself
  pub boxes : (d : Direction) (s x : ℕ) → x < 16 → sbox (s + offset (opposite d)) (sbox (s + offset d) x) ≡ x
  pub involution : (a : List ℕ) → Block a → π (π a) ≡ a
  -- the two meanings of a round agree
  pub round : (d : Direction) (key a : List ℕ) → word_round d key a ≡ nibble_round d key a
  -- any two path numbers give the same array after every round
  pub paths : (d : Direction) (p q : ℕ) (keys : ℕ → List ℕ) (b : List ℕ) (r : ℕ) → after d p keys b r ≡ after d q keys b r

-- what it asks: a key is any 4, 6 or 8 words of 16 bits, and a block any four
pub record FirstAsks : Type 0 where
  pub key : (k : List ℕ) → OneOf (4 ∷ 6 ∷ 8 ∷ []) (length k) → ((j : ℕ) → get_or k j 0 < 65536) → Key k
  pub block : (a b c d : ℕ) → a < 65536 → b < 65536 → c < 65536 → d < 65536 → Block (a ∷ b ∷ c ∷ d ∷ [])
