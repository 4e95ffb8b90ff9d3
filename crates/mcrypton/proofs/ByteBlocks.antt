-- Encrypting and decrypting on bytes: blocks go to blocks, and each undoes the other, by any path numbers.
use mathlib.Core.Path.{◌≡◌, refl, sym, ap, ◌∙◌, subst}
use mathlib.Core.Bool.{Bool, true, false, ◌||◌}
use mathlib.Core.List.{List}
use Prim.Native.Nat.{ℕ, ◌/◌, ◌%◌, ◌<◌}
use native.Mathlib.Omega.{arith}
use lib.Dec.{eqb}
use lib.ListN.{length}
use borrow.Author.Tests.{eqb-true}
use Rattle.octets.specs.Bytes.{Bytes, none, more}
use Rattle.rounds.specs.Array.{Block, words}
use Rattle.rounds.proofs.Blocks.{block_φ}
use Rattle.schedule.specs.Schedule.{Count, four, six, eight, Words, Key}
use Rattle.mcrypton.specs.Cipher.{steps, encrypt_block, decrypt_block}
use Rattle.mcrypton.specs.Bytes.{key_length, words_of, bytes_of, encrypt_bytes, decrypt_bytes}
use Rattle.mcrypton.proofs.WordsOf.{length_words, four_words_lem, by_four, words_bytes, bytes_words, words_of_lem}
use Rattle.mcrypton.proofs.Opens.{decrypt_encrypt, encrypt_decrypt}

count : (n : ℕ) → key_length n ≡ true → Count (n / 2)
unfolding key_length
count n h = go (eqb n 8) (eqb n 12) (eqb n 16) refl refl refl h
  where
    go : (a b c : Bool) → eqb n 8 ≡ a → eqb n 12 ≡ b → eqb n 16 ≡ c → (a || (b || c)) ≡ true → Count (n / 2)
    go true b c p q r h = subst (λ (m : ℕ). Count (m / 2)) (sym (eqb-true n 8 p)) four
    go false true c p q r h = subst (λ (m : ℕ). Count (m / 2)) (sym (eqb-true n 12 q)) six
    go false false c p q r h = subst (λ (m : ℕ). Count (m / 2)) (sym (eqb-true n 16 (r ∙ h))) eight

pub key_words : {k : List ℕ} → Bytes k → key_length (length k) ≡ true → Key (words_of k)
key_words {k} t h = record { count = subst Count (length_words k) (count (length k) h); words = words_of_lem t }

block_four : (u : List ℕ) → Words u → length u ≡ 4 → Block u
block_four u f e = subst Block (by_four u e) (words (f.at 0) (f.at 1) (f.at 2) (f.at 3))

pub block_words : {b : List ℕ} → Bytes b → length b ≡ 8 → Block (words_of b)
block_words {b} t e = block_four (words_of b) (words_of_lem t) (four_words_lem b e)

-- four words make 8 bytes
high : (w : ℕ) → w < 65536 → w / 256 < 256
high w h = omega arith

low : (w : ℕ) → w % 256 < 256
low w = omega arith

pub length_bytes : {a : List ℕ} → Block a → length (bytes_of a) ≡ 8
unfolding bytes_of
length_bytes (words p q r s) = refl

pub bytes_bytes : {a : List ℕ} → Block a → Bytes (bytes_of a)
unfolding bytes_of
bytes_bytes (words {a} {b} {c} {d} p q r s) =
    more (high a p) (more (low a) (more (high b q) (more (low b) (more (high c r) (more (low c) (more (high d s) (more (low d) none)))))))

pub block_encrypted : (p : ℕ) (k b : List ℕ) → Block (encrypt_block p k b)
unfolding encrypt_block steps
block_encrypted p k b = block_φ _

pub block_decrypted : (p : ℕ) (k b : List ℕ) → Block (decrypt_block p k b)
unfolding decrypt_block steps
block_decrypted p k b = block_φ _

module _ {k b : List ℕ} (p q : ℕ) (tk : Bytes k) (hk : key_length (length k) ≡ true) (tb : Bytes b) (hb : length b ≡ 8) where
  pub decrypt_encrypt_bytes : decrypt_bytes q k (encrypt_bytes p k b) ≡ b
  unfolding decrypt_bytes encrypt_bytes
  decrypt_encrypt_bytes =
      ap (λ (u : List ℕ). bytes_of (decrypt_block q (words_of k) u)) (words_bytes (encrypt_block p (words_of k) (words_of b)))
      ∙ ap bytes_of (decrypt_encrypt (words_of k) (key_words tk hk) p q (words_of b) (block_words tb hb))
      ∙ bytes_words tb (ap (λ (n : ℕ). n % 2) hb)

  pub encrypt_decrypt_bytes : encrypt_bytes p k (decrypt_bytes q k b) ≡ b
  unfolding decrypt_bytes encrypt_bytes
  encrypt_decrypt_bytes =
      ap (λ (u : List ℕ). bytes_of (encrypt_block p (words_of k) u)) (words_bytes (decrypt_block q (words_of k) (words_of b)))
      ∙ ap bytes_of (encrypt_decrypt (words_of k) (key_words tk hk) p q (words_of b) (block_words tb hb))
      ∙ bytes_words tb (ap (λ (n : ℕ). n % 2) hb)
