-- PRESENT on bytes: blocks go to blocks, and encrypting and decrypting undo each other.
use mathlib.Core.Path.{◌≡◌, refl, sym, ap, ◌∙◌, subst}
use mathlib.Core.Bool.{Bool, true, false, ◌||◌}
use mathlib.Core.List.{List, [], ◌∷◌}
use mathlib.Core.Logic.{inl, inr}
use Prim.Native.Nat.{ℕ, ◌^◌, ◌<◌}
use lib.Dec.{eqb}
use lib.ListN.{length}
use borrow.Author.Tests.{eqb-true}
use Rattle.octets.specs.Bytes.{if◌then◌otherwise◌, Bytes, be, number}
use Rattle.octets.specs.Block.{ByteBlock}
use Rattle.octets.specs.Clauses.{OneOf}
use Rattle.octets.proofs.Numbers.{length_be, be_bytes, number_be, number_lt, be_number}
use Rattle.present.specs.Present.{encrypt, decrypt}
use Rattle.present_schedule.specs.Schedule.{round_key80, round_key128}
use Rattle.present.specs.Bytes.{key_length, round_keys, encrypt_bytes, decrypt_bytes}
use Rattle.present.specs.Claims.{Present}
use Rattle.present_schedule.proofs.Keys.{Keys, keys80, keys128}
use Rattle.present.proofs.Opens.{encrypt_lt, decrypt_lt, decrypt_encrypt, encrypt_decrypt}

-- the number that n bytes spell
spelt : {s : List ℕ} (n : ℕ) → Bytes s → length s ≡ n → number s < 256 ^ n
spelt {s} n b e = subst (λ (m : ℕ). number s < 256 ^ m) e (number_lt b)

pub round_keys_lem : {k : List ℕ} → Bytes k → key_length (length k) ≡ true → Keys (round_keys k)
unfolding key_length round_keys
round_keys_lem {k} t h = go (eqb (length k) 10) (eqb (length k) 16) refl refl h
  where
    go : (a b : Bool) → eqb (length k) 10 ≡ a → eqb (length k) 16 ≡ b → (a || b) ≡ true
        → Keys (λ i. if a then round_key80 (number k) i otherwise round_key128 (number k) i)
    go true b p q h = keys80 (number k) (spelt 10 t (eqb-true (length k) 10 p))
    go false b p q h = keys128 (number k) (spelt 16 t (eqb-true (length k) 16 (q ∙ h)))

byte_block : (x : ℕ) → ByteBlock (be 8 x)
byte_block x = record { size = length_be 8 x; bytes = be_bytes 8 x }

pub block_encrypted : (k b : List ℕ) → ByteBlock (encrypt_bytes k b)
unfolding encrypt_bytes
block_encrypted k b = byte_block (encrypt (round_keys k) (number b))

pub block_decrypted : (k b : List ℕ) → ByteBlock (decrypt_bytes k b)
unfolding decrypt_bytes
block_decrypted k b = byte_block (decrypt (round_keys k) (number b))

back : {b : List ℕ} → ByteBlock b → be 8 (number b) ≡ b
back {b} h = ap (λ (n : ℕ). be n (number b)) (sym h.size) ∙ be_number h.bytes

module _ {k : List ℕ} (t : Bytes k) (h : key_length (length k) ≡ true) (b : List ℕ) (block : ByteBlock b) where
  small : number b < 2 ^ 64
  small = spelt 8 block.bytes block.size

  pub decrypt_encrypt_bytes : decrypt_bytes k (encrypt_bytes k b) ≡ b
  unfolding decrypt_bytes encrypt_bytes
  decrypt_encrypt_bytes =
      ap (λ (x : ℕ). be 8 (decrypt (round_keys k) x)) (number_be 8 (encrypt (round_keys k) (number b)) (encrypt_lt (round_keys k) (round_keys_lem t h) (number b) small))
      ∙ ap (be 8) (decrypt_encrypt (round_keys k) (round_keys_lem t h) (number b) small)
      ∙ back block

  pub encrypt_decrypt_bytes : encrypt_bytes k (decrypt_bytes k b) ≡ b
  unfolding decrypt_bytes encrypt_bytes
  encrypt_decrypt_bytes =
      ap (λ (x : ℕ). be 8 (encrypt (round_keys k) x)) (number_be 8 (decrypt (round_keys k) (number b)) (decrypt_lt (round_keys k) (round_keys_lem t h) (number b)))
      ∙ ap (be 8) (encrypt_decrypt (round_keys k) (round_keys_lem t h) (number b) small)
      ∙ back block

known : (n : ℕ) → OneOf (10 ∷ 16 ∷ []) n → key_length n ≡ true
unfolding OneOf key_length
known n (inl e) = rw e
known n (inr e) = rw e

pub present : Present
present =
    record {
      claims = λ k t l. let h = known (length k) l in record {
        encrypts = λ b x. block_encrypted k b;
        decrypts = λ b x. block_decrypted k b;
        decrypt_encrypt = decrypt_encrypt_bytes t h;
        encrypt_decrypt = encrypt_decrypt_bytes t h;
      };
    }
