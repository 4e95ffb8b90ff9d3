-- The mark and the field of one slot: just written, they fit and open to the caption; zeros are blank.
use Prim.Native.Nat.{ℕ, ◌+◌, ◌-◌, ◌^◌, ◌≤◌, ◌<◌}
use mathlib.Core.Path.{◌≡◌, refl, ap, ◌∙◌}
use mathlib.Core.Bool.{Bool, true, false, ◌&&◌}
use mathlib.Core.List.{List, ◌++◌, append_assoc}
use native.Mathlib.Omega.{arith}
use lib.ListN.{length, drop, length-append}
use lib.Seq.{drop-append_seam}
use Rattle.octets.specs.Bytes.{Bytes, be, number, zeros, part, all_zero}
use Rattle.octets.proofs.Bool.{and_left}
use Rattle.octets.proofs.EveryByte.{append_bytes, part_bytes}
use Rattle.octets.proofs.Numbers.{length_be, be_bytes, number_be, be_number, number_zeros, be_zero}
use Rattle.octets.proofs.Parts.{length_part, part_all, part_append_head, part_append_right}
use Rattle.octets.proofs.Zeros.{length_zeros, zeros_bytes, all_zero_zeros, all_zero_is, part_zeros}
use Rattle.octets.specs.Block.{ByteBlock}
use Rattle.modes.specs.Laws.{ByteBlocks, Cbc}
use Rattle.modes.proofs.Laws.{modes_laws}
use Rattle.modes.proofs.Authentication.{cmac_laws}
use Rattle.layout.specs.Layout.{mark_number, mark_length, mark_check, written_mark}
use Rattle.captions.specs.Captions.{Ciphers, padded, numbers, new_mark, start_block, sealed_field, opened_field, check_of, slot_mark}
use Rattle.captions.specs.Claim.{Sound}
use Rattle.layout.proofs.Fits.{written_mark_lem}
use Rattle.captions.proofs.Fitted.{slot_fits, or_last}

pub numbers_block : (a b c : ℕ) → ByteBlock (numbers a b c)
numbers_block a b c =
    record {
      size = simp (length-append, length_be);
      bytes = append_bytes (be_bytes 4 a) (append_bytes (be_bytes 2 b) (be_bytes 2 c));
    }

-- the bytes of the number that a part spells
pub be_part : (s : List ℕ) (a n : ℕ) → a + n ≤ length s → Bytes s → be n (number (part s a n)) ≡ part s a n
be_part s a n h b = rw (length_part s a n h) at (be_number (part_bytes a n b))

-- ---- the parts of a mark

module _ (w len : ℕ) (check : List ℕ) where
  mark_grouped : new_mark w len check ≡ be 4 w ++ (be 2 len ++ (be 2 0 ++ check))
  unfolding new_mark
  mark_grouped = simp append_assoc

  past_number : (a n : ℕ) → part (new_mark w len check) (4 + a) n ≡ part (be 2 len ++ (be 2 0 ++ check)) a n
  past_number a n = rw mark_grouped (part_append_right (be 4 w) _ (4 + a) a n (omega (arith, length_be 4 w)))

  past_length : (a n : ℕ) → part (new_mark w len check) (4 + (2 + a)) n ≡ part (be 2 0 ++ check) a n
  past_length a n = past_number (2 + a) n ∙ part_append_right (be 2 len) _ (2 + a) a n (omega (arith, length_be 2 len))

  new_mark_number : w < 256 ^ 4 → mark_number (new_mark w len check) ≡ w
  unfolding mark_number
  new_mark_number h = rw mark_grouped (ap number (part_append_head (be 4 w) _ 4 (length_be 4 w)) ∙ number_be 4 w h)

  new_mark_length : len < 256 ^ 2 → mark_length (new_mark w len check) ≡ len
  unfolding mark_length
  new_mark_length h = ap number (past_number 0 2 ∙ part_append_head (be 2 len) _ 2 (length_be 2 len)) ∙ number_be 2 len h

  new_mark_pad : part (new_mark w len check) 6 2 ≡ zeros 2
  new_mark_pad = past_length 0 2 ∙ part_append_head (be 2 0) check 2 (length_be 2 0) ∙ be_zero 2

  new_mark_check : length check ≡ 8 → mark_check (new_mark w len check) ≡ check
  unfolding mark_check
  new_mark_check h = past_length 2 8 ∙ part_append_right (be 2 0) check 2 0 8 (omega (arith, length_be 2 0)) ∙ part_all check 8 h

  new_mark_size : length check ≡ 8 → length (new_mark w len check) ≡ 16
  new_mark_size h = rw mark_grouped (simp (length-append, length_be, h))

-- ---- a mark with a number is not blank

zero_number : mark_number (zeros 16) ≡ 0
unfolding mark_number
zero_number = ap number (part_zeros 16 0 4 (omega arith)) ∙ number_zeros 4

marked_not_blank : (m f : List ℕ) → length m ≡ 16 → 1 ≤ mark_number m → all_zero m && all_zero f ≡ false
marked_not_blank m f l h = go (all_zero m && all_zero f) refl
  where
    go : (b : Bool) → all_zero m && all_zero f ≡ b → b ≡ false
    go false e = refl
    go true e =
        let z : m ≡ zeros 16 = all_zero_is m (and_left (all_zero m) (all_zero f) e) ∙ ap zeros l in
        absurd (omega (arith, ap mark_number z ∙ zero_number))

-- ---- zeros

pub zeros_blank : all_zero (zeros 16) && all_zero (zeros 192) ≡ true
zeros_blank = rw (all_zero_zeros 16, all_zero_zeros 192)

pub zeros_fit : (w : ℕ) → slot_fits w (zeros 16) (zeros 192) ≡ true
unfolding slot_fits
zeros_fit w = rw zeros_blank

-- ---- a caption

pub padded_blocks : (c : List ℕ) → length c ≤ 192 → Bytes c → ByteBlocks 24 (padded c)
unfolding padded
padded_blocks c h b =
    record { size = simp (length-append, length_zeros) (omega arith); bytes = append_bytes b (zeros_bytes (192 - length c)) }

pub padded_rest : (c : List ℕ) → all_zero (drop (length c) (padded c)) ≡ true
unfolding padded
padded_rest c = rw (drop-append_seam c (zeros (192 - length c))) (all_zero_zeros (192 - length c))

module _ (x : Ciphers) (ok : Sound x) (tail w i : ℕ) where
  pub start_block_lem : ByteBlock (start_block x tail w i)
  unfolding start_block
  start_block_lem = ok.seals.encrypts (numbers w i tail) (numbers_block w i tail)

  pub check_block : (len : ℕ) (f : List ℕ) → Bytes f → ByteBlock (check_of x w i len f)
  unfolding check_of
  check_block len f b = (cmac_laws x.M ok.checks).authenticates (numbers w i len ++ f) (append_bytes (numbers_block w i len).bytes b)

  pub chaining : Cbc x.E x.D
  chaining = (modes_laws x.E x.D ok.seals).cbc

  module _ (c : List ℕ) (short : length c ≤ 192) (bc : Bytes c) where
    pub opened_sealed : opened_field x tail w i (sealed_field x tail w i c) ≡ padded c
    unfolding sealed_field opened_field
    opened_sealed = chaining.decrypt_encrypt 24 (start_block x tail w i) (padded c) start_block_lem (padded_blocks c short bc)

    pub sealed_blocks : ByteBlocks 24 (sealed_field x tail w i c)
    unfolding sealed_field
    sealed_blocks = chaining.encrypts 24 (start_block x tail w i) (padded c) start_block_lem (padded_blocks c short bc)

-- ---- the mark of a caption c sealed as f

module _ (x : Ciphers) (ok : Sound x) (w i : ℕ) (c f : List ℕ) (short : length c ≤ 192) (bf : Bytes f) (small : w < 256 ^ 4) where
  checked : ByteBlock (check_of x w i (length c) f)
  checked = check_block x ok 0 w i (length c) f bf

  pub slot_mark_block : ByteBlocks 2 (slot_mark x w i c f)
  unfolding slot_mark new_mark
  slot_mark_block =
      record {
        size = new_mark_size w (length c) (check_of x w i (length c) f) checked.size;
        bytes = append_bytes (numbers_block w (length c) 0).bytes checked.bytes;
      }

  pub slot_mark_number : mark_number (slot_mark x w i c f) ≡ w
  unfolding slot_mark
  slot_mark_number = new_mark_number w (length c) (check_of x w i (length c) f) small

  pub slot_mark_length : mark_length (slot_mark x w i c f) ≡ length c
  unfolding slot_mark
  slot_mark_length = new_mark_length w (length c) (check_of x w i (length c) f) (omega arith)

  pub slot_mark_check : mark_check (slot_mark x w i c f) ≡ check_of x w i (length c) f
  unfolding slot_mark
  slot_mark_check = new_mark_check w (length c) (check_of x w i (length c) f) checked.size

  slot_mark_pad : part (slot_mark x w i c f) 6 2 ≡ zeros 2
  unfolding slot_mark
  slot_mark_pad = new_mark_pad w (length c) (check_of x w i (length c) f)

  module _ (positive : 1 ≤ w) where
    pub slot_mark_fits : slot_fits w (slot_mark x w i c f) f ≡ true
    unfolding slot_fits
    slot_mark_fits =
        or_last (all_zero (slot_mark x w i c f) && all_zero f) (written_mark w (slot_mark x w i c f))
        (written_mark_lem w (slot_mark x w i c f)
        (record {
          positive = omega (arith, slot_mark_number);
          at_most = omega (arith, slot_mark_number);
          short = omega (arith, slot_mark_length);
          pad = ap all_zero slot_mark_pad ∙ all_zero_zeros 2;
        }))

    pub slot_mark_not_blank : all_zero (slot_mark x w i c f) && all_zero f ≡ false
    slot_mark_not_blank = marked_not_blank (slot_mark x w i c f) f slot_mark_block.size (omega (arith, slot_mark_number))
