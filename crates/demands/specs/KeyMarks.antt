-- What the key mark is for (document 02, request 7): on a sheet of edition 3, a pair of keys with another mark writes nothing and sees nothing.
use Rattle.std.specs.Prelude.{ℕ, ◌≡◌, ◌≢◌, List, [], ◌∷◌, length}
use Rattle.octets.specs.Clauses.{Clause, ◌when◌, Exactly}
use Rattle.octets.specs.Bytes.{zeros}
use Rattle.layout.specs.Layout.{key_class, edition_byte, stored_mark}
use Rattle.layout.specs.Rules.{KeyFits, MeetsLayout}
use Rattle.captions.specs.Captions.{Keys, mark_for}
use Rattle.captions.specs.Refusals.{RightKeys, OtherMark}
use Rattle.demands.specs.Ciphers.{by_paths, writing_by, reading_by, ClassesByCipher}
use Rattle.demands.specs.Steps.{Gives, key_refusal}

-- a pair of keys that meets none of 1, 2 and 5 with s, a sheet that meets the layout of edition 3, and whose key mark, by p, is another
pub record OtherPair (p : ℕ) (k : Keys) (s : List ℕ) : Type 0 where
  pub fits : MeetsLayout s
  pub edition : edition_byte s ≡ 3
  pub right : RightKeys k
  pub unlike : k.sealing ≢ k.checking
  pub class : KeyFits (length k.sealing) (key_class s)
  pub mark : mark_for (by_paths (key_class s) p p k) s ≢ stored_mark s

-- what a pair meets with a sheet: 1 2 5 14
unfoldable pub pair_clauses : Keys → List ℕ → List Clause
pair_clauses k s =
    (1 when (RightKeys k → ⊥))
    ∷ (2 when (k.sealing ≡ k.checking))
    ∷ (5 when (KeyFits (length k.sealing) (key_class s) → ⊥))
    ∷ (14 when OtherMark (by_paths (key_class s) 0 0 k) s)
    ∷ []

-- by any path numbers, for every slot, those of n or more too, and every caption
pub record KeyMarks : Type 0 where
  -- a write answers 14 and changes no byte
  pub write : (p : ℕ) (k : Keys) (s : List ℕ) (i : ℕ) (c : List ℕ) → OtherPair p k s → Gives (writing_by p k s i c) 14 0 s
  -- a read answers 14, and its window is zeros
  pub read : (p q : ℕ) (k : Keys) (s : List ℕ) (i : ℕ) (window : List ℕ) → OtherPair p k s → length window ≡ 192 → Gives (reading_by p q k s i window) 14 0 (zeros 192)
  -- so of every stranger to a sheet that meets the layout: a write answers the number that he meets with it and changes no byte, a read answers it and leaves zeros
  pub stranger : (p : ℕ) (k : Keys) (s : List ℕ) (i : ℕ) (c : List ℕ) → MeetsLayout s → key_refusal k s ≢ 0 → Gives (writing_by p k s i c) (key_refusal k s) 0 s
  pub stranger_read : (p q : ℕ) (k : Keys) (s : List ℕ) (i : ℕ) (window : List ℕ) → MeetsLayout s → key_refusal k s ≢ 0 → length window ≡ 192
      → Gives (reading_by p q k s i window) (key_refusal k s) 0 (zeros 192)
  -- a stranger's number is exactly the first of 1, 2, 5 and 14 that he meets, and 0 exactly if he meets none
  pub numbers : (k : Keys) (s : List ℕ) → Exactly (key_refusal k s) (pair_clauses k s)
  -- older editions never give 14: not to a stranger, nor to any write or read
  pub old_stranger : (k : Keys) (s : List ℕ) → edition_byte s ≢ 3 → key_refusal k s ≢ 14
  pub old_write : (p : ℕ) (k : Keys) (s : List ℕ) (i : ℕ) (c : List ℕ) → edition_byte s ≢ 3 → (writing_by p k s i c).number ≢ 14
  pub old_read : (p q : ℕ) (k : Keys) (s : List ℕ) (i : ℕ) (window : List ℕ) → edition_byte s ≢ 3 → (reading_by p q k s i window).number ≢ 14
  -- nothing else is asked of another pair
  pub ask : (p : ℕ) (k : Keys) (s : List ℕ) → MeetsLayout s → edition_byte s ≡ 3 → RightKeys k → k.sealing ≢ k.checking → KeyFits (length k.sealing) (key_class s)
      → mark_for (by_paths (key_class s) p p k) s ≢ stored_mark s → OtherPair p k s
  -- the cipher of the mark is that of the class
  pub ciphers : ClassesByCipher
