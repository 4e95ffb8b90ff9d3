-- Keys and blocks, read from bytes and from words.
use mathlib.Core.Path.{◌≡◌, refl, sym, ap, ap₂, ◌∙◌}
use mathlib.Core.Bool.{Bool, true, false, ◌||◌}
use mathlib.Core.List.{List}
use Prim.Native.Nat.{ℕ, ◌+◌, ◌*◌, ◌-◌, ◌/◌, ◌^◌, ◌≤◌}
use native.Mathlib.Omega.{arith}
use lib.Dec.{eqb}
use lib.ListN.{length}
use borrow.Author.Tests.{eq-eqb, ne_eqb, eqb-true}
use Rattle.octets.specs.Bytes.{be, number, part}
use Rattle.octets.proofs.Numbers.{number_parts, number_two, number_four}
use Rattle.octets.proofs.Parts.{part_all}
use Rattle.present.specs.Present.{encrypt, decrypt}
use Rattle.present_schedule.specs.Schedule.{update80, update128, register, round_key80, round_key128}
use Rattle.present.specs.Bytes.{key_length, round_keys, encrypt_bytes, decrypt_bytes}
use Rattle.present_schedule.specs.Registers.{KeyRegister, keys_from}
use Rattle.present.specs.Registers.{four_words, register_of, encrypt_words, decrypt_words, Spells}

-- ---- a key as bytes

-- the round keys of the key that a register's two numbers spell
module _ (k : List ℕ) {high low : ℕ} (h : high ≡ number (part k 0 8)) where
  pub keys_80 : length k ≡ 10 → low ≡ number (part k 8 2) → (i : ℕ) → keys_from (record { high = high; low = low; wide = false }) i ≡ round_keys k i
  unfolding keys_from round_keys round_key80
  keys_80 e l i =
      let q : high * 2 ^ 16 + low ≡ number k = ap₂ (λ (x y : ℕ). x * 2 ^ 16 + y) h l ∙ sym (number_parts k 0 8 2 (omega arith)) ∙ ap number (part_all k 10 e) in
      rw (eq-eqb (length k) 10 e) (ap (λ (x : ℕ). register update80 x (i - 1) / 2 ^ 16) q)

  pub keys_128 : length k ≡ 16 → low ≡ number (part k 8 8) → (i : ℕ) → keys_from (record { high = high; low = low; wide = true }) i ≡ round_keys k i
  unfolding keys_from round_keys round_key128
  keys_128 e l i =
      let q : high * 2 ^ 64 + low ≡ number k = ap₂ (λ (x y : ℕ). x * 2 ^ 64 + y) h l ∙ sym (number_parts k 0 8 8 (omega arith)) ∙ ap number (part_all k 16 e) in
      rw (ne_eqb (length k) 10 (other (length k) e)) (ap (λ (x : ℕ). register update128 x (i - 1) / 2 ^ 64) q)
    where
      other : (n : ℕ) → n ≡ 16 → n ≡ 10 → ⊥
      other n p q = omega arith

-- ---- a key as words

-- round keys make of a block what the key does that they are of
same_encrypt : (k : List ℕ) (r : KeyRegister) → ((i : ℕ) → keys_from r i ≡ round_keys k i) → (b : ℕ) → encrypt (keys_from r) b ≡ encrypt (round_keys k) b
same_encrypt k r e b = ap (λ (keys : ℕ → ℕ). encrypt keys b) (λ i n. e n i)

same_decrypt : (k : List ℕ) (r : KeyRegister) → ((i : ℕ) → keys_from r i ≡ round_keys k i) → (b : ℕ) → decrypt (keys_from r) b ≡ decrypt (round_keys k) b
same_decrypt k r e b = ap (λ (keys : ℕ → ℕ). decrypt keys b) (λ i n. e n i)

-- words that spell the bytes of a key
module _ (w k : List ℕ) (s : Spells w k) where
  first_eight_lem : 8 ≤ length k → four_words w 0 ≡ number (part k 0 8)
  first_eight_lem h =
      omega
      (arith, s.at 0 (omega arith), s.at 1 (omega arith), s.at 2 (omega arith), s.at 3 (omega arith), number_parts k 0 4 4 (omega arith), number_four k 0 (omega arith), number_four k 4 (omega arith))

  last_eight : 16 ≤ length k → four_words w 4 ≡ number (part k 8 8)
  last_eight h =
      omega
      (arith, s.at 4 (omega arith), s.at 5 (omega arith), s.at 6 (omega arith), s.at 7 (omega arith), number_parts k 8 4 4 (omega arith), number_four k 8 (omega arith), number_four k 12 (omega arith))

  words_80 : length k ≡ 10 → (i : ℕ) → keys_from (register_of false w) i ≡ round_keys k i
  unfolding register_of
  words_80 e = keys_80 k (first_eight_lem (omega arith)) e (s.at 4 (omega arith) ∙ sym (number_two k 8 (omega arith)))

  words_128 : length k ≡ 16 → (i : ℕ) → keys_from (register_of true w) i ≡ round_keys k i
  unfolding register_of
  words_128 e = keys_128 k (first_eight_lem (omega arith)) e (last_eight (omega arith))

  module _ (b : List ℕ) where
    pub words_encrypt_80 : length k ≡ 10 → encrypt_words false w b ≡ encrypt_bytes k b
    unfolding encrypt_words encrypt_bytes
    words_encrypt_80 e = ap (be 8) (same_encrypt k (register_of false w) (words_80 e) (number b))

    pub words_encrypt_128 : length k ≡ 16 → encrypt_words true w b ≡ encrypt_bytes k b
    unfolding encrypt_words encrypt_bytes
    words_encrypt_128 e = ap (be 8) (same_encrypt k (register_of true w) (words_128 e) (number b))

    pub words_decrypt_80 : length k ≡ 10 → decrypt_words false w b ≡ decrypt_bytes k b
    unfolding decrypt_words decrypt_bytes
    words_decrypt_80 e = ap (be 8) (same_decrypt k (register_of false w) (words_80 e) (number b))

    pub words_decrypt_128 : length k ≡ 16 → decrypt_words true w b ≡ decrypt_bytes k b
    unfolding decrypt_words decrypt_bytes
    words_decrypt_128 e = ap (be 8) (same_decrypt k (register_of true w) (words_128 e) (number b))

-- ---- a block call: the key's words, the block read, and what was made of it

-- a key has 10 or 16 bytes
by_length : (n : ℕ) (P : Bool → Type 0) → key_length n ≡ true → (n ≡ 10 → P false) → (n ≡ 16 → P true) → P (eqb n 16)
unfolding key_length
by_length n P h narrow wide = go (eqb n 10) refl h
  where
    other : n ≡ 10 → n ≡ 16 → ⊥
    other p q = omega (arith, p, q)

    go : (a : Bool) → eqb n 10 ≡ a → (a || eqb n 16) ≡ true → P (eqb n 16)
    go true p h = let e = eqb-true n 10 p in rw (ne_eqb n 16 (other e)) (narrow e)
    go false p h = rw h (wide (eqb-true n 16 h))

pub at_most_sixteen : (n : ℕ) → key_length n ≡ true → n ≤ 16
at_most_sixteen n h = by_length n (λ v. n ≤ 16) h (λ e. omega (arith, e)) (λ e. omega (arith, e))

module _ (k b : List ℕ) {w x : List ℕ} (s : Spells w k) (h : key_length (length k) ≡ true) (e : x ≡ b) where
  pub block_encrypts : {c : List ℕ} → c ≡ encrypt_words (eqb (length k) 16) w x → c ≡ encrypt_bytes k b
  block_encrypts f =
      f
      ∙ ap (encrypt_words (eqb (length k) 16) w) e
      ∙ by_length (length k) (λ v. encrypt_words v w b ≡ encrypt_bytes k b) h (words_encrypt_80 w k s b) (words_encrypt_128 w k s b)

  pub block_decrypts : {c : List ℕ} → c ≡ decrypt_words (eqb (length k) 16) w x → c ≡ decrypt_bytes k b
  block_decrypts f =
      f
      ∙ ap (decrypt_words (eqb (length k) 16) w) e
      ∙ by_length (length k) (λ v. decrypt_words v w b ≡ decrypt_bytes k b) h (words_decrypt_80 w k s b) (words_decrypt_128 w k s b)
