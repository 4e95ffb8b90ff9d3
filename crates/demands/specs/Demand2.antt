-- Demand 2, both ways: what an accepted write stores, that an accepted read shows what was sealed, byte for byte, and that what a write stores is read; and what an accepted blanking stores.
use Rattle.std.specs.Prelude.{ℕ, ◌+◌, ◌-◌, ◌*◌, ◌≤◌, ◌<◌, ◌≡◌, true, ◌⊎◌, List, ◌++◌, length, get_or, take}
use Rattle.octets.specs.Bytes.{Bytes, be, zeros, part}
use Rattle.octets.specs.Block.{ByteBlock, Invertible}
use Rattle.modes.specs.Cbc.{cbc_encrypt}
use Rattle.modes.specs.Cmac.{cmac}
use Rattle.modes.specs.Laws.{ByteBlocks}
use Rattle.modes.specs.Chained.{CbcSteps}
use Rattle.modes.specs.Printed.{MacSteps}
use Rattle.layout.specs.Layout.{edition_of, slots, key_class, last_write, mark_number, mark, field, fit}
use Rattle.layout.specs.Places.{Places}
use Rattle.captions.specs.Answers.{Outcome}
use Rattle.captions.specs.Captions.{Keys, Ciphers}
use Rattle.captions.specs.Calls.{clearing}
use Rattle.demands.specs.Ciphers.{by_paths, writing_by, reading_by, blanking_by, ClassesByCipher, CodeWrites, CodeReads, CodeBlanks}
use Rattle.demands.specs.Steps.{Gives, Serves}

-- slot i of s holds write number w and the caption c, sealed and checked with the ciphers x:
-- 24 blocks by CBC of the caption and zeros, from the sealed form of write number, slot and two bytes (zero in edition 1, the serial in editions 2 and 3);
-- write number, length, two zero bytes, and CMAC of write number, slot, length and sealed field
pub record Holds (x : Ciphers) (s : List ℕ) (i w : ℕ) (c : List ℕ) : Type 0 where
  pub field_is : field (edition_of s) s i
      ≡ cbc_encrypt x.E 24 (x.E (be 4 w ++ (be 2 i ++ be 2 ((edition_of s).tail s)))) (c ++ zeros (192 - length c))
  pub mark_is : mark (edition_of s) s i
      ≡ (be 4 w ++ (be 2 (length c) ++ be 2 0)) ++ cmac x.M ((be 4 w ++ (be 2 i ++ be 2 (length c))) ++ field (edition_of s) s i)

-- ---- what an accepted call comes to: o is its outcome

-- a read of slot i of s: the window's first bytes, as many as the length that it answers, are the caption that the slot holds, and the rest is zero
pub record Shows (x : Ciphers) (s : List ℕ) (i : ℕ) (o : Outcome) : Type 0 where
  pub holds : Holds x s i (mark_number (mark (edition_of s) s i)) (take o.len o.bytes)
  pub size : length (take o.len o.bytes) ≡ o.len
  pub rest : o.bytes ≡ take o.len o.bytes ++ zeros (192 - o.len)

-- a write of c to slot i of s: the slot holds number w + 1 and c, and bytes 4 to 7 are w + 1; every byte but the slot's 208 and those four is as before
pub record Stores (x : Ciphers) (s : List ℕ) (i : ℕ) (c : List ℕ) (o : Outcome) : Type 0 where
  pub len : o.len ≡ 0
  pub holds : Holds x o.bytes i (last_write s + 1) c
  pub last : part o.bytes 4 4 ≡ be 4 (last_write s + 1)
  pub size : length o.bytes ≡ length s
  pub others : (j : ℕ) → (j < 4) ⊎ (8 ≤ j)
      → (j < (edition_of s).header + 16 * i) ⊎ ((edition_of s).header + 16 * i + 16 ≤ j)
      → (j < (edition_of s).header + 16 * slots s + 192 * i) ⊎ ((edition_of s).header + 16 * slots s + 192 * i + 192 ≤ j)
      → get_or o.bytes j 0 ≡ get_or s j 0

-- a clear of slot i of s: the slot's 208 bytes are zero, and every other byte is as before
pub record Empties (s : List ℕ) (i : ℕ) (o : Outcome) : Type 0 where
  pub len : o.len ≡ 0
  pub mark_is : mark (edition_of s) o.bytes i ≡ zeros 16
  pub field_is : field (edition_of s) o.bytes i ≡ zeros 192
  pub size : length o.bytes ≡ length s
  pub others : (j : ℕ)
      → (j < (edition_of s).header + 16 * i) ⊎ ((edition_of s).header + 16 * i + 16 ≤ j)
      → (j < (edition_of s).header + 16 * slots s + 192 * i) ⊎ ((edition_of s).header + 16 * slots s + 192 * i + 192 ≤ j)
      → get_or o.bytes j 0 ≡ get_or s j 0

-- blanking with n slots, keys of class t and the serial v: n, t, edition 3, w = 0, the serial;
-- the key mark, which is the first six bytes of the CMAC of the sealed n, t, edition, serial and two zero bytes; and zeros
pub record Makes (x : Ciphers) (n t v : ℕ) (o : Outcome) : Type 0 where
  pub len : o.len ≡ 0
  pub sheet_is : o.bytes
      ≡ ((be 2 n ++ (be 1 t ++ (be 1 3 ++ be 4 0)))
      ++ (be 2 v ++ take 6 (cmac x.M (x.E (be 2 n ++ (be 1 t ++ (be 1 3 ++ (be 2 v ++ zeros 2))))))))
      ++ zeros (208 * n)

-- ---- of any sheet, and by any path numbers

pub record Demand2 : Type 0 where
  -- from sheet to caption
  pub reads : (p q : ℕ) (k : Keys) (s : List ℕ) (i : ℕ) (window : List ℕ) → Bytes k.sealing → Bytes k.checking → Bytes s
      → (reading_by p q k s i window).number ≡ 0 → Shows (by_paths (key_class s) p q k) s i (reading_by p q k s i window)
  -- from caption to sheet
  pub writes : (p : ℕ) (k : Keys) (s : List ℕ) (i : ℕ) (c : List ℕ) → Bytes k.sealing → Bytes k.checking → Bytes s → Bytes c
      → (writing_by p k s i c).number ≡ 0 → Stores (by_paths (key_class s) p p k) s i c (writing_by p k s i c)
  -- and back: a slot of a sheet that meets the layout, under a pair that serves it, that holds w and c as a write stores them is read as c
  pub held : (p q : ℕ) (k : Keys) (s : List ℕ) (i w : ℕ) (c window : List ℕ) → Serves k s → Bytes s → fit s ≡ true → i < slots s
      → 1 ≤ w → w < 4294967296 → Bytes c → length c ≤ 192 → length window ≡ 192 → Holds (by_paths (key_class s) p q k) s i w c
      → Gives (reading_by p q k s i window) 0 (length c) (c ++ zeros (192 - length c))
  pub clears : (s : List ℕ) (i : ℕ) → (clearing s i).number ≡ 0 → Empties s i (clearing s i)
  -- of any buffer
  pub blanks : (p : ℕ) (k : Keys) (b : List ℕ) (n t v : ℕ) → (blanking_by p k b n t v).number ≡ 0 → Makes (by_paths t p p k) n t v (blanking_by p k b n t v)
  -- which cipher that is
  pub ciphers : ClassesByCipher
  -- CBC block by block, and CMAC step by step, as the standards print them
  pub cbc : (E D : List ℕ → List ℕ) (n : ℕ) (c x : List ℕ) → Invertible E D → ByteBlock c → ByteBlocks n x → CbcSteps E D n c x
  pub mac : (E : List ℕ → List ℕ) (m : List ℕ) → MacSteps E m
  -- where mark, field and w stand
  pub places : Places
  -- the definitions that the contracts of write, read and blanking cite are these; that of clear cites clearing
  pub code_write : CodeWrites
  pub code_read : CodeReads
  pub code_blank : CodeBlanks
