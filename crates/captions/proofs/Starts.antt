-- Start blocks: sealing is one to one, so equal ones were made from equal numbers.
use Prim.Native.Nat.{ℕ, ◌^◌, ◌<◌}
use mathlib.Core.Path.{◌≡◌, sym, ap, ◌∙◌}
use mathlib.Core.List.{List, ◌++◌}
use native.Mathlib.Omega.{arith}
use Rattle.octets.specs.Bytes.{be, part}
use Rattle.octets.proofs.Numbers.{length_be, be_inj}
use Rattle.octets.proofs.Parts.{part_append_right, part_append_head, part_append_tail}
use Rattle.captions.specs.Captions.{Ciphers, numbers, start_block}
use Rattle.captions.specs.Claim.{Sound}
use Rattle.captions.proofs.Slot.{numbers_block}

-- the parts of three numbers
module _ (w i a : ℕ) where
  first : part (numbers w i a) 0 4 ≡ be 4 w
  first = part_append_head (be 4 w) (be 2 i ++ be 2 a) 4 (length_be 4 w)

  second : part (numbers w i a) 4 2 ≡ be 2 i
  second = part_append_right (be 4 w) (be 2 i ++ be 2 a) 4 0 2 (omega (arith, length_be 4 w)) ∙ part_append_head (be 2 i) (be 2 a) 2 (length_be 2 i)

  third : part (numbers w i a) 6 2 ≡ be 2 a
  third = part_append_right (be 4 w) (be 2 i ++ be 2 a) 6 2 2 (omega (arith, length_be 4 w)) ∙ part_append_tail (be 2 i) (be 2 a) 2 2 (length_be 2 i) (length_be 2 a)

module _ (x : Ciphers) (ok : Sound x) (w w' i i' a a' : ℕ) (e : start_block x a w i ≡ start_block x a' w' i') where
  same_numbers : numbers w i a ≡ numbers w' i' a'
  unfolding start_block
  same_numbers =
      sym (ok.seals.decrypt_encrypt (numbers w i a) (numbers_block w i a))
      ∙ ap x.D e
      ∙ ok.seals.decrypt_encrypt (numbers w' i' a') (numbers_block w' i' a')

  same_part : (b n : ℕ) → part (numbers w i a) b n ≡ part (numbers w' i' a') b n
  same_part b n = ap (λ (u : List ℕ). part u b n) same_numbers

  pub start_number : w < 2 ^ 32 → w' < 2 ^ 32 → w ≡ w'
  start_number h g = be_inj 4 w w' (omega arith) (omega arith) (sym (first w i a) ∙ same_part 0 4 ∙ first w' i' a')

  pub start_slot : i < 2 ^ 16 → i' < 2 ^ 16 → i ≡ i'
  start_slot h g = be_inj 2 i i' (omega arith) (omega arith) (sym (second w i a) ∙ same_part 4 2 ∙ second w' i' a')

  pub start_tail : a < 65536 → a' < 65536 → a ≡ a'
  start_tail h g = be_inj 2 a a' (omega arith) (omega arith) (sym (third w i a) ∙ same_part 6 2 ∙ third w' i' a')
