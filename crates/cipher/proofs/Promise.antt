-- A loaded key means the cipher of its class, mCrypton by any path or PRESENT, whose ways undo each other.
use mathlib.Core.Path.{◌≡◌, refl, sym, ap, ◌∙◌, subst₂}
use mathlib.Core.Bool.{Bool, true, false, ◌||◌}
use mathlib.Core.List.{List, [], ◌∷◌}
use mathlib.Core.Logic.{inl, inr}
use Prim.Native.Nat.{ℕ, zero, suc, ◌*◌, ◌/◌, ◌≤◌, ◌<◌}
use native.Mathlib.Omega.{arith}
use lib.Dec.{eqb}
use lib.ListN.{get_or, length}
use borrow.Author.Tests.{eqb-true}
use Rattle.octets.specs.Bytes.{Bytes}
use Rattle.rounds.specs.declared.Direction.TheVariants.{Encrypt, Decrypt}
use Rattle.schedule.specs.Schedule.{eight_words, start, back_start, register, back_register, encryption_key, decryption_key}
use Rattle.schedule.specs.declared.Register.{Register}
use Rattle.mcrypton.specs.Cipher.{encrypt_block, decrypt_block}
use Rattle.mcrypton.specs.Registers.{encrypt_from, decrypt_from}
use Rattle.mcrypton.specs.Bytes.{key_length, words_of, bytes_of, encrypt_bytes, decrypt_bytes}
use Rattle.mcrypton.proofs.Paths.{same_steps}
use Rattle.mcrypton.proofs.WordsOf.{length_words, word_at}
use Rattle.mcrypton.proofs.ByteBlocks.{length_bytes, bytes_bytes, block_encrypted, block_decrypted, decrypt_encrypt_bytes, encrypt_decrypt_bytes}
use Rattle.octets.specs.Clauses.{OneOf}
use Rattle.octets.specs.Block.{Invertible}
use Rattle.present.specs.Bytes.{encrypt_bytes as present_encrypt, decrypt_bytes as present_decrypt}
use Rattle.present.specs.Registers.{Spells}
use Rattle.present.proofs.Held.{words_encrypt_80, words_encrypt_128, words_decrypt_80, words_decrypt_128}
use Rattle.present.proofs.ByteBlocks.{present}
use Rattle.cipher.specs.Key.{mcrypton_class, present_class, class_known, key_bytes, loaded, key_register, mcrypton_encrypted, mcrypton_decrypted, encrypted, decrypted, encrypt_by, decrypt_by}
use Rattle.cipher.specs.Promise.{ClassKey}

-- the register of a key that is loaded for the class of its length
loaded_register : (k : List ℕ) → key_register (loaded (length k / 2) k) ≡ start (words_of k)
unfolding key_register loaded start
loaded_register k = rw length_words

mcrypton_encrypts : (p : ℕ) (k b : List ℕ) → mcrypton_encrypted (loaded (length k / 2) k) b ≡ encrypt_bytes p k b
unfolding mcrypton_encrypted encrypt_bytes encrypt_block encrypt_from encryption_key register
mcrypton_encrypts p k b =
    ap (λ (u : Register). bytes_of (encrypt_from 0 u (words_of b))) (loaded_register k)
    ∙ ap bytes_of (same_steps Encrypt 0 p (encryption_key (words_of k)) (words_of b))

mcrypton_decrypts : (p : ℕ) (k b : List ℕ) → mcrypton_decrypted (loaded (length k / 2) k) b ≡ decrypt_bytes p k b
unfolding mcrypton_decrypted decrypt_bytes decrypt_block decrypt_from decryption_key back_register
mcrypton_decrypts p k b =
    ap (λ (u : Register). bytes_of (decrypt_from 0 (back_start u) (words_of b))) (loaded_register k)
    ∙ ap bytes_of (same_steps Decrypt 0 p (decryption_key (words_of k)) (words_of b))

-- mCrypton on bytes, by any two path numbers
pub mcrypton_invertible : (p q : ℕ) {k : List ℕ} → Bytes k → key_length (length k) ≡ true → Invertible (encrypt_bytes p k) (decrypt_bytes q k)
mcrypton_invertible p q {k} t h =
    record {
      encrypts = λ x b. unfold encrypt_bytes in record { size = length_bytes (block_encrypted p (words_of k) (words_of x)); bytes = bytes_bytes (block_encrypted p (words_of k) (words_of x)) };
      decrypts = λ x b. unfold decrypt_bytes in record { size = length_bytes (block_decrypted q (words_of k) (words_of x)); bytes = bytes_bytes (block_decrypted q (words_of k) (words_of x)) };
      decrypt_encrypt = λ x b. decrypt_encrypt_bytes p q t h b.bytes b.size;
      encrypt_decrypt = λ x b. encrypt_decrypt_bytes p q t h b.bytes b.size;
    }

-- the words of a loaded key spell it
eight_at : (u : List ℕ) (i : ℕ) → i < 8 → get_or (eight_words u) i 0 ≡ get_or u i 0
unfolding eight_words
eight_at u zero h = refl
eight_at u (suc zero) h = refl
eight_at u (suc (suc zero)) h = refl
eight_at u (suc (suc (suc zero))) h = refl
eight_at u (suc (suc (suc (suc zero)))) h = refl
eight_at u (suc (suc (suc (suc (suc zero))))) h = refl
eight_at u (suc (suc (suc (suc (suc (suc zero)))))) h = refl
eight_at u (suc (suc (suc (suc (suc (suc (suc zero))))))) h = refl
eight_at u (suc (suc (suc (suc (suc (suc (suc (suc i)))))))) h = absurd (no i h)
  where
    no : (i : ℕ) → suc (suc (suc (suc (suc (suc (suc (suc i))))))) < 8 → ⊥
    no i h = omega arith

spells : (k : List ℕ) → length k ≤ 16 → Spells (eight_words (words_of k)) k
spells k l = record { at = λ i h. eight_at (words_of k) i (omega arith) ∙ sym (word_at k i h) }

-- ---- a key of a class

-- a law of class 4, 6 and 8 is one of every class of mCrypton
pub mcrypton_cases : (P : ℕ → Type 0) → P 4 → P 6 → P 8 → (t : ℕ) → mcrypton_class t ≡ true → P t
unfolding mcrypton_class
mcrypton_cases P p q r t h = go (eqb t 4) (eqb t 6) (eqb t 8) refl refl refl h
  where
    go : (x y z : Bool) → eqb t 4 ≡ x → eqb t 6 ≡ y → eqb t 8 ≡ z → (x || (y || z)) ≡ true → P t
    go true y z e f g h = rw (eqb-true t 4 e) p
    go false true z e f g h = rw (eqb-true t 6 f) q
    go false false z e f g h = rw (eqb-true t 8 (g ∙ h)) r

-- a law of class 21 and 24 is one of every class of PRESENT
pub present_cases : (P : ℕ → Type 0) → P 21 → P 24 → (t : ℕ) → present_class t ≡ true → P t
unfolding present_class
present_cases P p q t h = go (eqb t 21) (eqb t 24) refl refl h
  where
    go : (x y : Bool) → eqb t 21 ≡ x → eqb t 24 ≡ y → (x || y) ≡ true → P t
    go true y e f h = rw (eqb-true t 21 e) p
    go false y e f h = rw (eqb-true t 24 (f ∙ h)) q

-- and every known class is one of them
pub class_cases : (P : ℕ → Type 0) → P 4 → P 6 → P 8 → P 21 → P 24 → (t : ℕ) → class_known t ≡ true → P t
unfolding class_known
class_cases P p q r u v t h = go (mcrypton_class t) refl h
  where
    go : (x : Bool) → mcrypton_class t ≡ x → (x || present_class t) ≡ true → P t
    go true e h = mcrypton_cases P p q r t e
    go false e h = present_cases P u v t h

pub mcrypton_known : (t : ℕ) → mcrypton_class t ≡ true → class_known t ≡ true
unfolding class_known
mcrypton_known t h = rw h

-- a class stands in one byte of a sheet
pub class_small : (t : ℕ) → class_known t ≡ true → t < 256
class_small = class_cases (λ t. t < 256) (omega arith) (omega arith) (omega arith) (omega arith) (omega arith)

-- a class that is not one of PRESENT
or_left : (a b : Bool) → (a || b) ≡ false → a ≡ false
or_left true b h = h
or_left false b h = refl

or_right : (a b : Bool) → (a || b) ≡ false → b ≡ false
or_right true b h = absurd (true_false h)
  where
    true_false : true ≡ false → ⊥
    true_false h = let z : ◌≡◌ {A = ℕ} 0 1 = cc in omega arith
or_right false b h = h

twice : (t : ℕ) → present_class t ≡ false → key_bytes t ≡ 2 * t
unfolding present_class key_bytes
twice t h = rw (or_left (eqb t 21) (eqb t 24) h, or_right (eqb t 21) (eqb t 24) h)

-- by any path a loaded key is the cipher of its class, where its length is that of the class
module _ (p : ℕ) (k b : List ℕ) where
  encrypts_21 : length k ≡ key_bytes 21 → encrypted (loaded 21 k) b ≡ encrypt_by 21 p k b
  unfolding encrypted encrypt_by loaded present_class key_bytes
  encrypts_21 e = words_encrypt_80 (eight_words (words_of k)) k (spells k (omega arith)) b e

  encrypts_24 : length k ≡ key_bytes 24 → encrypted (loaded 24 k) b ≡ encrypt_by 24 p k b
  unfolding encrypted encrypt_by loaded present_class key_bytes
  encrypts_24 e = words_encrypt_128 (eight_words (words_of k)) k (spells k (omega arith)) b e

  decrypts_21 : length k ≡ key_bytes 21 → decrypted (loaded 21 k) b ≡ decrypt_by 21 p k b
  unfolding decrypted decrypt_by loaded present_class key_bytes
  decrypts_21 e = words_decrypt_80 (eight_words (words_of k)) k (spells k (omega arith)) b e

  decrypts_24 : length k ≡ key_bytes 24 → decrypted (loaded 24 k) b ≡ decrypt_by 24 p k b
  unfolding decrypted decrypt_by loaded present_class key_bytes
  decrypts_24 e = words_decrypt_128 (eight_words (words_of k)) k (spells k (omega arith)) b e

module _ (class : ℕ) (k : List ℕ) (size : length k ≡ key_bytes class) where
  half : present_class class ≡ false → class ≡ length k / 2
  half h = omega (arith, size ∙ twice class h)

  others_encrypt : present_class class ≡ false → (p : ℕ) (b : List ℕ) → encrypted (loaded class k) b ≡ encrypt_by class p k b
  unfolding encrypted encrypt_by loaded
  others_encrypt h p b = rw h (ap (λ (c : ℕ). mcrypton_encrypted (loaded c k) b) (half h) ∙ mcrypton_encrypts p k b)

  others_decrypt : present_class class ≡ false → (p : ℕ) (b : List ℕ) → decrypted (loaded class k) b ≡ decrypt_by class p k b
  unfolding decrypted decrypt_by loaded
  others_decrypt h p b = rw h (ap (λ (c : ℕ). mcrypton_decrypted (loaded c k) b) (half h) ∙ mcrypton_decrypts p k b)

  pub class_encrypts : (p : ℕ) (b : List ℕ) → encrypted (loaded class k) b ≡ encrypt_by class p k b
  class_encrypts p b = go (present_class class) refl
    where
      go : (r : Bool) → present_class class ≡ r → encrypted (loaded class k) b ≡ encrypt_by class p k b
      go true e = present_cases (λ c. length k ≡ key_bytes c → encrypted (loaded c k) b ≡ encrypt_by c p k b) (encrypts_21 p k b) (encrypts_24 p k b) class e size
      go false e = others_encrypt e p b

  pub class_decrypts : (p : ℕ) (b : List ℕ) → decrypted (loaded class k) b ≡ decrypt_by class p k b
  class_decrypts p b = go (present_class class) refl
    where
      go : (r : Bool) → present_class class ≡ r → decrypted (loaded class k) b ≡ decrypt_by class p k b
      go true e = present_cases (λ c. length k ≡ key_bytes c → decrypted (loaded c k) b ≡ decrypt_by c p k b) (decrypts_21 p k b) (decrypts_24 p k b) class e size
      go false e = others_decrypt e p b

-- a key of mCrypton, loaded for the class of its length
length_class : (n : ℕ) → key_length n ≡ true → present_class (n / 2) ≡ false
unfolding key_length present_class
length_class n h = go (eqb n 8) (eqb n 12) (eqb n 16) refl refl refl h
  where
    go : (x y z : Bool) → eqb n 8 ≡ x → eqb n 12 ≡ y → eqb n 16 ≡ z → (x || (y || z)) ≡ true → (eqb (n / 2) 21 || eqb (n / 2) 24) ≡ false
    go true y z e f g h = rw (eqb-true n 8 e)
    go false true z e f g h = rw (eqb-true n 12 f)
    go false false z e f g h = rw (eqb-true n 16 (g ∙ h))

pub loaded_encrypts : (p : ℕ) (k b : List ℕ) → key_length (length k) ≡ true → encrypted (loaded (length k / 2) k) b ≡ encrypt_bytes p k b
unfolding encrypted loaded
loaded_encrypts p k b h = rw (length_class (length k) h) (mcrypton_encrypts p k b)

-- ---- the promise

mcrypton_known_length : (k : List ℕ) (class : ℕ) → mcrypton_class class ≡ true → length k ≡ key_bytes class → key_length (length k) ≡ true
unfolding key_length key_bytes
mcrypton_known_length k class h e = rw e (mcrypton_cases (λ c. key_length (key_bytes c) ≡ true) refl refl refl class h)

present_known_length : (k : List ℕ) (class : ℕ) → present_class class ≡ true → length k ≡ key_bytes class → OneOf (10 ∷ 16 ∷ []) (length k)
unfolding OneOf key_bytes
present_known_length k class h e = rw e (present_cases (λ c. OneOf (10 ∷ 16 ∷ []) (key_bytes c)) (inl refl) (inr refl) class h)

module _ (class p : ℕ) (k b : List ℕ) where
  by_present : present_class class ≡ true → encrypt_by class p k b ≡ present_encrypt k b
  unfolding encrypt_by
  by_present h = rw h

  back_present : present_class class ≡ true → decrypt_by class p k b ≡ present_decrypt k b
  unfolding decrypt_by
  back_present h = rw h

  by_mcrypton : present_class class ≡ false → encrypt_by class p k b ≡ encrypt_bytes p k b
  unfolding encrypt_by
  by_mcrypton h = rw h

  back_mcrypton : present_class class ≡ false → decrypt_by class p k b ≡ decrypt_bytes p k b
  unfolding decrypt_by
  back_mcrypton h = rw h

pub class_invertible : {class : ℕ} {k : List ℕ} → ClassKey class k → (p q : ℕ) → Invertible (encrypt_by class p k) (decrypt_by class q k)
class_invertible {class} {k} h p q = go (present_class class) refl
  where
    known : present_class class ≡ false → mcrypton_class class ≡ true
    known e = other (mcrypton_class class) (present_class class) e (unfold class_known in h.known)
      where
        other : (a b : Bool) → b ≡ false → (a || b) ≡ true → a ≡ true
        other true b e h = refl
        other false b e h = sym e ∙ h

    go : (r : Bool) → present_class class ≡ r → Invertible (encrypt_by class p k) (decrypt_by class q k)
    go true e =
        subst₂ Invertible (λ i b. sym (by_present class p k b e) i) (λ i b. sym (back_present class q k b e) i)
        (present.claims k h.bytes (present_known_length k class e h.size))
    go false e =
        subst₂ Invertible (λ i b. sym (by_mcrypton class p k b e) i) (λ i b. sym (back_mcrypton class q k b e) i)
        (mcrypton_invertible p q h.bytes (mcrypton_known_length k class (known e) h.size))
