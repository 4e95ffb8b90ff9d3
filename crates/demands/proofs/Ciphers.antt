-- The cipher of a class by path numbers and by loaded keys: all one, mCrypton or PRESENT, and what the theorems for any cipher ask.
use Prim.Native.Nat.{ℕ}
use mathlib.Core.Path.{◌≡◌, refl, sym, ap, ◌∙◌}
use mathlib.Core.Bool.{true, false, ◌&&◌}
use mathlib.Core.List.{List}
use lib.Dec.{eqb}
use lib.ListN.{length}
use borrow.Author.Tests.{eqb-true, not-false}
use Rattle.std.specs.Prelude.{Ok, Err}
use Rattle.octets.specs.Bytes.{Bytes, be, number}
use Rattle.octets.proofs.Bool.{and_right}
use Rattle.mcrypton.specs.Bytes.{encrypt_bytes, decrypt_bytes}
use Rattle.mcrypton.proofs.Vectors.{block_vectors}
use Rattle.present.specs.Bytes.{round_keys, encrypt_bytes as present_encrypt, decrypt_bytes as present_decrypt}
use Rattle.present.specs.Present.{encrypt, decrypt}
use Rattle.present_schedule.specs.Schedule.{round_key80, round_key128}
use Rattle.present.proofs.Vectors.{vectors}
use Rattle.cipher.specs.Key.{present_class, class_known, key_bytes, sheet_key_length, loaded, encrypted, decrypted, encrypt_by, decrypt_by}
use Rattle.cipher.proofs.Promise.{class_encrypts, class_decrypts}
use Rattle.cipher.proofs.Promised.{class_ciphers, promise}
use Rattle.layout.specs.Layout.{edition_of, key_class, blank_sheet}
use Rattle.layout.proofs.Header.{rule_classes}
use Rattle.layout.proofs.Fits.{fit_facts}
use Rattle.layout.proofs.Meaning.{reflects_class}
use Rattle.captions.specs.Captions.{Keys, Ciphers, loaded_for, key_mark}
use Rattle.captions.specs.Calls.{wrong_keys, key_tests, other_class, blank_tests, writing, reading, blanking_with, blanking}
use Rattle.captions.specs.Answers.{outcome}
use Rattle.captions.specs.Claim.{Sound}
use Rattle.captions.proofs.Tables.{Unmet, unmet_first, unmet_rest, decided_cong}
use Rattle.captions.proofs.ReadBack.{or_false_left, or_false_right}
use Rattle.captions.proofs.Agree.{writing_agree, reading_agree}
use Rattle.demands.specs.Ciphers.{by_paths, writing_by, reading_by, blanking_by, ByMcrypton, ByPresent, ClassesByCipher, CodeWrites, CodeReads, CodeBlanks}

-- ---- keys of a class

module _ (k : Keys) (t : ℕ) (w : wrong_keys k ≡ false) (size : length k.sealing ≡ key_bytes t) where
  keys_right : sheet_key_length (length k.sealing) && (sheet_key_length (length k.checking) && eqb (length k.sealing) (length k.checking)) ≡ true
  unfolding wrong_keys
  keys_right = not-false _ w

  pub as_long : length k.checking ≡ key_bytes t
  as_long =
      sym (eqb-true (length k.sealing) (length k.checking)
      (and_right (sheet_key_length (length k.checking)) _ (and_right (sheet_key_length (length k.sealing)) _ keys_right)))
      ∙ size

  sealing_encrypts : (p : ℕ) → encrypt_by t p k.sealing ≡ encrypted (loaded t k.sealing)
  sealing_encrypts p = λ i b. sym (class_encrypts t k.sealing size p b) i

  sealing_decrypts : (q : ℕ) → decrypt_by t q k.sealing ≡ decrypted (loaded t k.sealing)
  sealing_decrypts q = λ i b. sym (class_decrypts t k.sealing size q b) i

  checking_encrypts : (p : ℕ) → encrypt_by t p k.checking ≡ encrypted (loaded t k.checking)
  checking_encrypts p = λ i b. sym (class_encrypts t k.checking as_long p b) i

  -- by any path numbers, the keys loaded for the class
  pub paths_loaded : (p q : ℕ) → by_paths t p q k ≡ loaded_for t k
  unfolding by_paths loaded_for
  paths_loaded p q = rw (sealing_encrypts p, sealing_decrypts q, checking_encrypts p)

  sound_loaded : class_known t ≡ true → Bytes k.sealing → Bytes k.checking → Sound (loaded_for t k)
  unfolding loaded_for
  sound_loaded h a b =
      record {
        seals = (promise (record { known = h; size = size; bytes = a })).invertible;
        checks = (promise (record { known = h; size = as_long; bytes = b })).invertible.encrypts;
      }

  pub sound_paths : (p q : ℕ) → class_known t ≡ true → Bytes k.sealing → Bytes k.checking → Sound (by_paths t p q k)
  sound_paths p q h a b = rw (paths_loaded p q) (sound_loaded h a b)

-- ---- keys that pass tests 1, 2 and 5

module _ (k : Keys) (s : List ℕ) (u : Unmet (key_tests k)) (c : other_class k s ≡ false) where
  right : wrong_keys k ≡ false
  unfolding key_tests
  right = unmet_first u

  pub sealing_size : length k.sealing ≡ key_bytes (key_class s)
  unfolding other_class
  sealing_size = eqb-true _ _ (not-false _ c)

  pub checking_size : length k.checking ≡ key_bytes (key_class s)
  checking_size = as_long k (key_class s) right sealing_size

  -- by any path numbers, the keys loaded for the sheet's class
  pub loaded_paths : (p q : ℕ) → by_paths (key_class s) p q k ≡ loaded_for (key_class s) k
  loaded_paths = paths_loaded k (key_class s) right sealing_size

  -- all path numbers mean the same
  pub same_paths : (p q p' q' : ℕ) → by_paths (key_class s) p q k ≡ by_paths (key_class s) p' q' k
  same_paths p q p' q' = loaded_paths p q ∙ sym (loaded_paths p' q')

  pub paths_sound : (p q : ℕ) → class_known (key_class s) ≡ true → Bytes k.sealing → Bytes k.checking → Sound (by_paths (key_class s) p q k)
  paths_sound = sound_paths k (key_class s) right sealing_size

-- ---- what both demands say

by_mcrypton : (class : ℕ) → present_class class ≡ false → ByMcrypton class
unfolding by_paths encrypt_by decrypt_by encrypt_bytes decrypt_bytes
by_mcrypton class h = record { seals = λ p q k b. rw h; opens = λ p q k b. rw h; checks = λ p q k b. rw h }

-- the round keys of PRESENT, by the length of the key
round_80 : (k : List ℕ) (i : ℕ) → length k ≡ 10 → round_keys k i ≡ round_key80 (number k) i
unfolding round_keys
round_80 k i e = rw e

round_128 : (k : List ℕ) (i : ℕ) → length k ≡ 16 → round_keys k i ≡ round_key128 (number k) i
unfolding round_keys
round_128 k i e = rw e

by_present : (class n : ℕ) (round_key : ℕ → ℕ → ℕ) → present_class class ≡ true → ((k : List ℕ) (i : ℕ) → length k ≡ n → round_keys k i ≡ round_key (number k) i)
    → ByPresent class n round_key
unfolding by_paths encrypt_by decrypt_by present_encrypt present_decrypt
by_present class n round_key h round =
    record {
      seals = λ p q k b e. rw h (encrypts k.sealing b e);
      opens = λ p q k b e. rw h (decrypts k.sealing b e);
      checks = λ p q k b e. rw h (encrypts k.checking b e);
    }
  where
    keys : (k : List ℕ) → length k ≡ n → round_keys k ≡ round_key (number k)
    keys k e = λ j i. round k i e j

    encrypts : (k b : List ℕ) → length k ≡ n → be 8 (encrypt (round_keys k) (number b)) ≡ be 8 (encrypt (round_key (number k)) (number b))
    encrypts k b e = ap (λ (f : ℕ → ℕ). be 8 (encrypt f (number b))) (keys k e)

    decrypts : (k b : List ℕ) → length k ≡ n → be 8 (decrypt (round_keys k) (number b)) ≡ be 8 (decrypt (round_key (number k)) (number b))
    decrypts k b e = ap (λ (f : ℕ → ℕ). be 8 (decrypt f (number b))) (keys k e)

pub classes_by_cipher : ClassesByCipher
unfolding present_class
classes_by_cipher =
    record {
      class_4 = by_mcrypton 4 refl;
      class_6 = by_mcrypton 6 refl;
      class_8 = by_mcrypton 8 refl;
      class_21 = by_present 21 10 round_key80 refl round_80;
      class_24 = by_present 24 16 round_key128 refl round_128;
      no_other = λ s h. (reflects_class s (key_class s)).holds (rule_classes s (fit_facts s h).rule);
      vectors = block_vectors;
      present_vectors = vectors;
      means = class_ciphers;
      invertible = λ class p q k c. unfold by_paths in (promise c).by_paths_lem p q;
    }

pub code_writes : CodeWrites
unfolding writing_by writing
code_writes p k s i c =
    writing_agree (edition_of s) (by_paths (key_class s) p p k) (loaded_for (key_class s) k) k s i (λ u h. loaded_paths k s u h p p) c

pub code_reads : CodeReads
unfolding reading_by reading
code_reads p q k s i window =
    reading_agree (edition_of s) (by_paths (key_class s) p q k) (loaded_for (key_class s) k) k s i (λ u h. loaded_paths k s u h p q) window

-- ---- blanking: keys that pass its tests

module _ (k : Keys) (b : List ℕ) (n t : ℕ) (u : Unmet (blank_tests k b n t)) where
  pub blank_keys : wrong_keys k ≡ false
  unfolding blank_tests
  blank_keys = or_false_left (wrong_keys k) _ (unmet_first u)

  pub blank_known : class_known t ≡ true
  unfolding blank_tests
  blank_known = not-false _ (or_false_right (wrong_keys k) _ (unmet_first u))

  pub blank_size : length k.sealing ≡ key_bytes t
  unfolding blank_tests
  blank_size = eqb-true _ _ (not-false _ (unmet_first (unmet_rest (unmet_rest (unmet_rest u)))))

pub code_blanks : CodeBlanks
unfolding blanking_by blanking blanking_with
code_blanks p k s n t v =
    decided_cong (blank_tests k s n t) _ _ (λ r. outcome (Err r) s)
    (λ u. ap (λ (x : Ciphers). outcome (Ok 0) (blank_sheet n t v (key_mark x n t v))) (paths_loaded k t (blank_keys k s n t u) (blank_size k s n t u) p p))
