-- The ciphers of demands 2 and 3: for every key class mCrypton by path numbers, or PRESENT, and the calls of write, read and blanking with it.
use Rattle.std.specs.Prelude.{ℕ, ◌≡◌, true, List, [], ◌∷◌, ◌⊎◌, length}
use Rattle.octets.specs.Bytes.{be, number}
use Rattle.mcrypton.specs.Cipher.{encrypt_block, decrypt_block}
use Rattle.mcrypton.specs.Bytes.{words_of, bytes_of}
use Rattle.mcrypton.specs.Vectors.{BlockVectors}
use Rattle.present.specs.Present.{encrypt, decrypt}
use Rattle.present_schedule.specs.Schedule.{round_key80, round_key128}
use Rattle.present.specs.Vectors.{Vectors}
use Rattle.cipher.specs.Key.{encrypt_by, decrypt_by}
use Rattle.octets.specs.Block.{Invertible}
use Rattle.octets.specs.Clauses.{OneOf}
use Rattle.cipher.specs.Promise.{ClassKey, ClassCiphers}
use Rattle.layout.specs.Layout.{edition_of, key_class, edition_byte, fit}
use Rattle.captions.specs.Answers.{Outcome}
use Rattle.captions.specs.Captions.{Keys, Ciphers}
use Rattle.captions.specs.Calls.{writing_with, reading_with, blanking_with, writing, reading, blanking}

-- the cipher of a key class: p is the path number of encryption, q that of decryption, where the cipher has one
unfoldable pub by_paths : ℕ → ℕ → ℕ → Keys → Ciphers
by_paths class p q k =
    record {
      E = encrypt_by class p k.sealing;
      D = decrypt_by class q k.sealing;
      M = encrypt_by class p k.checking;
    }

-- a write that encrypts by p; a read that makes start blocks and checks by p, and opens blocks by q
unfoldable pub writing_by : ℕ → Keys → List ℕ → ℕ → List ℕ → Outcome
writing_by p k s i c = writing_with (edition_of s) (by_paths (key_class s) p p k) k s i c

unfoldable pub reading_by : ℕ → ℕ → Keys → List ℕ → ℕ → List ℕ → Outcome
reading_by p q k s i window = reading_with (edition_of s) (by_paths (key_class s) p q k) k s i window

-- blanking that makes the key mark by p
unfoldable pub blanking_by : ℕ → Keys → List ℕ → ℕ → ℕ → ℕ → Outcome
blanking_by p k s n t v = blanking_with (by_paths t p p k) k s n t v

-- ---- what both demands say of them

-- a key class means mCrypton, the block cipher of demand 3's first half on bytes: E and D under the sealing key, M under the checking key
pub record ByMcrypton (class : ℕ) : Type 0 where
  pub seals : (p q : ℕ) (k : Keys) (b : List ℕ) → (by_paths class p q k).E b ≡ bytes_of (encrypt_block p (words_of k.sealing) (words_of b))
  pub opens : (p q : ℕ) (k : Keys) (b : List ℕ) → (by_paths class p q k).D b ≡ bytes_of (decrypt_block q (words_of k.sealing) (words_of b))
  pub checks : (p q : ℕ) (k : Keys) (b : List ℕ) → (by_paths class p q k).M b ≡ bytes_of (encrypt_block p (words_of k.checking) (words_of b))

-- a key class means PRESENT with keys of n bytes, and round_key K i is K_i of the key K, whatever the path numbers
pub record ByPresent (class n : ℕ) (round_key : ℕ → ℕ → ℕ) : Type 0 where
  pub seals : (p q : ℕ) (k : Keys) (b : List ℕ) → length k.sealing ≡ n → (by_paths class p q k).E b ≡ be 8 (encrypt (round_key (number k.sealing)) (number b))
  pub opens : (p q : ℕ) (k : Keys) (b : List ℕ) → length k.sealing ≡ n → (by_paths class p q k).D b ≡ be 8 (decrypt (round_key (number k.sealing)) (number b))
  pub checks : (p q : ℕ) (k : Keys) (b : List ℕ) → length k.checking ≡ n → (by_paths class p q k).M b ≡ be 8 (encrypt (round_key (number k.checking)) (number b))

-- the cipher of every key class, and a sheet that meets the layout is of one of them: those of PRESENT in edition 3 alone
pub record ClassesByCipher : Type 0 where
  pub class_4 : ByMcrypton 4
  pub class_6 : ByMcrypton 6
  pub class_8 : ByMcrypton 8
  pub class_21 : ByPresent 21 10 round_key80
  pub class_24 : ByPresent 24 16 round_key128
  pub no_other : (s : List ℕ) → fit s ≡ true → OneOf (4 ∷ 6 ∷ 8 ∷ []) (key_class s) ⊎ ((edition_byte s ≡ 3) × OneOf (21 ∷ 24 ∷ []) (key_class s))
  -- and what comes out of each, on blocks for each key size: those of mCrypton computed by the second program, and those that PRESENT's authors print
  pub vectors : BlockVectors
  pub present_vectors : Vectors
  -- by the names that these speak of
  pub means : ClassCiphers
  -- under keys of bytes, as many as the class has, opening undoes sealing and sealing undoes opening, by any path numbers
  pub invertible : (class p q : ℕ) (k : Keys) → ClassKey class k.sealing → Invertible (by_paths class p q k).E (by_paths class p q k).D

-- the definitions that the contracts of write, read and blanking cite are these, by any path numbers
abbrev pub CodeWrites : Type 0
CodeWrites = (p : ℕ) (k : Keys) (s : List ℕ) (i : ℕ) (c : List ℕ) → writing_by p k s i c ≡ writing k s i c

abbrev pub CodeReads : Type 0
CodeReads = (p q : ℕ) (k : Keys) (s : List ℕ) (i : ℕ) (window : List ℕ) → reading_by p q k s i window ≡ reading k s i window

abbrev pub CodeBlanks : Type 0
CodeBlanks = (p : ℕ) (k : Keys) (s : List ℕ) (n t v : ℕ) → blanking_by p k s n t v ≡ blanking k s n t v
