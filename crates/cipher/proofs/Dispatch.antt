-- The class chooses the cipher: one law for each way out.
use mathlib.Core.Path.{◌≡◌, ap}
use mathlib.Core.Bool.{Bool, true, false}
use mathlib.Core.List.{List, map}
use Prim.Native.Nat.{ℕ}
use lib.Dec.{eqb}
use Rattle.present.specs.Registers.{encrypt_words, decrypt_words}
use Rattle.cipher.specs.declared.Key.{Key}
use Rattle.cipher.specs.Key.{present_class, mcrypton_encrypted, mcrypton_decrypted, encrypted, decrypted}

module _ (k : Key) {r : Bool} (e : r ≡ present_class k.class) where
  pub encrypt_present : r ≡ true → (b : List ℕ) → encrypt_words (eqb k.class 24) k.words b ≡ encrypted k b
  unfolding encrypted
  encrypt_present t b = rw (← e, t)

  pub encrypt_mcrypton : r ≡ false → (b : List ℕ) → mcrypton_encrypted k b ≡ encrypted k b
  unfolding encrypted
  encrypt_mcrypton t b = rw (← e, t)

  pub decrypt_present : r ≡ true → (b : List ℕ) → decrypt_words (eqb k.class 24) k.words b ≡ decrypted k b
  unfolding decrypted
  decrypt_present t b = rw (← e, t)

  pub decrypt_mcrypton : r ≡ false → (b : List ℕ) → mcrypton_decrypted k b ≡ decrypted k b
  unfolding decrypted
  decrypt_mcrypton t b = rw (← e, t)

  pub all_present : r ≡ true → (b : List (List ℕ)) → map (decrypt_words (eqb k.class 24) k.words) b ≡ map (decrypted k) b
  all_present t b = ap (λ (f : List ℕ → List ℕ). map f b) (λ i x. decrypt_present t x i)

  pub all_mcrypton : r ≡ false → (b : List (List ℕ)) → map (mcrypton_decrypted k) b ≡ map (decrypted k) b
  all_mcrypton t b = ap (λ (f : List ℕ → List ℕ). map f b) (λ i x. decrypt_mcrypton t x i)
