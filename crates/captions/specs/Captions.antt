-- Sealing a caption into a slot and opening it (document 01, "The sheet"), and the key mark of a sheet (document 02, request 7), for any block cipher.
use Rattle.std.specs.Prelude.{ℕ, ◌+◌, ◌-◌, Bool, not, ◌&&◌, ◌||◌, List, ◌++◌, length, take, drop}
use Rattle.octets.specs.Bytes.{if◌then◌otherwise◌, be, zeros, all_zero, same}
use Rattle.cipher.specs.Key.{loaded, encrypted, decrypted}
use Rattle.modes.specs.Cbc.{cbc_encrypt, cbc_decrypt}
use Rattle.modes.specs.Cmac.{cmac}
use Rattle.layout.specs.Layout.{Edition, slots, key_class, last_write, serial, stored_mark, mark_number, mark_length, mark_check, mark, field, store_slot, store_last}
use Rattle.faults.specs.Faults.{first_set}
use Rattle.captions.specs.declared.Change.{Change}
use Rattle.captions.specs.declared.Change.TheVariants.{Check, Byte}

-- the sealing and the checking key, as bytes
pub record Keys : Type 0 where
  pub sealing : List ℕ
  pub checking : List ℕ

abbrev pub pair : List ℕ → List ℕ → Keys
pair sealing checking = record { sealing = sealing; checking = checking }

-- what a pair of keys does to blocks: E and D under the sealing key, M under the checking key
pub record Ciphers : Type 0 where
  pub E : List ℕ → List ℕ
  pub D : List ℕ → List ℕ
  pub M : List ℕ → List ℕ

-- the keys k loaded for a class
unfoldable pub loaded_for : ℕ → Keys → Ciphers
loaded_for class k =
    record {
      E = encrypted (loaded class k.sealing);
      D = decrypted (loaded class k.sealing);
      M = encrypted (loaded class k.checking);
    }

-- the caption and zero bytes up to 192
unfoldable pub padded : List ℕ → List ℕ
padded c = c ++ zeros (192 - length c)

-- numbers of 4, 2 and 2 bytes
abbrev pub numbers : ℕ → ℕ → ℕ → List ℕ
numbers x y z = be 4 x ++ (be 2 y ++ be 2 z)

-- a mark: write number (4 bytes), caption length (2), two zero bytes, check (8)
unfoldable pub new_mark : ℕ → ℕ → List ℕ → List ℕ
new_mark w len check = numbers w len 0 ++ check

-- the block made of n (2 bytes), t, edition, serial (2), two zero bytes; the edition is 3
unfoldable pub mark_block : ℕ → ℕ → ℕ → List ℕ
mark_block n t v = be 2 n ++ (be 1 t ++ (be 1 3 ++ (be 2 v ++ be 2 0)))

module _ (x : Ciphers) where
  -- the key mark: that block is sealed with the sealing key, and the mark is the first six bytes of its CMAC under the checking key
  unfoldable pub key_mark : ℕ → ℕ → ℕ → List ℕ
  key_mark n t v = take 6 (cmac x.M (x.E (mark_block n t v)))

  -- the one that a sheet with these header fields would have
  unfoldable pub mark_for : List ℕ → List ℕ
  mark_for s = key_mark (slots s) (key_class s) (serial s)

  -- the start block: the sealed form of write number (4 bytes), slot (2), and two bytes that are zero in edition 1 and the serial from edition 2 on
  unfoldable pub start_block : ℕ → ℕ → ℕ → List ℕ
  start_block tail w i = x.E (numbers w i tail)

  -- the 24 blocks sealed by CBC
  unfoldable pub sealed_field : ℕ → ℕ → ℕ → List ℕ → List ℕ
  sealed_field tail w i c = cbc_encrypt x.E 24 (start_block tail w i) (padded c)

  unfoldable pub opened_field : ℕ → ℕ → ℕ → List ℕ → List ℕ
  opened_field tail w i f = cbc_decrypt x.D 24 (start_block tail w i) f

  -- the check: CMAC of write number (4), slot (2), length (2), sealed field (192)
  unfoldable pub check_of : ℕ → ℕ → ℕ → List ℕ → List ℕ
  check_of w i len f = cmac x.M (numbers w i len ++ f)

  -- the mark of write number w in slot i, of the caption c sealed as f
  unfoldable pub slot_mark : ℕ → ℕ → List ℕ → List ℕ → List ℕ
  slot_mark w i c f = new_mark w (length c) (check_of w i (length c) f)

  module _ (e : Edition) where
    -- the sheet has a key mark, and it isn't that of these keys
    unfoldable pub other_keys : List ℕ → Bool
    other_keys s = e.keyed && not (same (mark_for s) (stored_mark s))

    -- a write takes number w and stores it in the header and the mark
    unfoldable pub stored_as : List ℕ → ℕ → ℕ → List ℕ → List ℕ
    stored_as s w i c =
        let f : List ℕ = sealed_field (e.tail s) w i c in
        store_last (store_slot e s i (slot_mark w i c f) f) w

    unfoldable pub written : List ℕ → ℕ → List ℕ → List ℕ
    written s i c = stored_as s (last_write s + 1) i c

    -- what a read of slot i opens
    unfoldable pub opened : List ℕ → ℕ → List ℕ
    opened s i = opened_field (e.tail s) (mark_number (mark e s i)) i (field e s i)

    -- the check differs, or an opened byte at or past the length isn't zero
    unfoldable pub altered : List ℕ → ℕ → Bool
    altered s i =
        not (same (check_of (mark_number (mark e s i)) i (mark_length (mark e s i)) (field e s i)) (mark_check (mark e s i)))
        || not (all_zero (drop (mark_length (mark e s i)) (opened s i)))

    -- what of an altered slot differs: the check, or else the first opened byte at or past the length that isn't zero
    unfoldable pub change : List ℕ → ℕ → Change
    change s i =
        if same (check_of (mark_number (mark e s i)) i (mark_length (mark e s i)) (field e s i)) (mark_check (mark e s i))
        then Byte (first_set (opened s i) (mark_length (mark e s i)) (192 - mark_length (mark e s i)))
        otherwise Check

-- a clear makes all 208 bytes zero and keeps w
unfoldable pub cleared : Edition → List ℕ → ℕ → List ℕ
cleared e s i = store_slot e s i (zeros 16) (zeros 192)
