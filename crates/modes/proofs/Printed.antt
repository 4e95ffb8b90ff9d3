-- CMAC is that of SP 800-38B, step by step.
use mathlib.Core.Path.{◌≡◌, refl, sym, ap, ◌∙◌}
use mathlib.Core.List.{List, ◌∷◌, ◌++◌}
use Prim.Native.Nat.{ℕ, zero, suc, ◌+◌, ◌-◌, ◌*◌, ◌≤◌, ◌<◌}
use native.Mathlib.Omega.{arith}
use borrow.Author.Tests.{eq-eqb, ne_eqb}
use lib.ListN.{length, take, length-take, length-drop}
use lib.Seq.{take_all}
use Rattle.octets.specs.Bytes.{zeros, part}
use Rattle.octets.proofs.Parts.{length_part, part_add}
use Rattle.modes.specs.Xor.{xor_bytes}
use Rattle.modes.specs.Cmac.{L, K1, K2, block_count, piece, last_block, message_block, chain, chain_value, cmac}
use Rattle.modes.specs.Printed.{joined, SubkeySteps, MacSteps}
use Rattle.modes.proofs.Subkeys.{shift_left_doubles, length_shift, shift_bytes, double_low, double_high}
use Rattle.modes.proofs.Authentication.{count_positive, count_whole, count_start, count_rest, block_before, block_last}

subkey_steps : (E : List ℕ → List ℕ) → SubkeySteps E
unfolding zeros
subkey_steps E =
    record {
      shift_length = length_shift;
      shift_bytes = λ b. shift_bytes;
      shift_number = shift_left_doubles;
      constant = refl;
      L_is = refl;
      K1_shifted = λ h. sym (double_low (L E) _ refl h);
      K1_added = λ h. sym (double_high (L E) _ refl _ h refl);
      K2_shifted = λ h. sym (double_low (K1 E) _ refl h);
      K2_added = λ h. sym (double_high (K1 E) _ refl _ h refl);
    }

-- the first j pieces of a message
joined_pieces : (m : List ℕ) (j : ℕ) → joined (piece m) j ≡ take (8 * j) m
unfolding joined
joined_pieces m zero = refl
joined_pieces m (suc j) =
    let a : 8 * (suc j - 1) ≡ 0 + 8 * j = omega arith in
    let b : 8 * suc j ≡ 8 * j + 8 = omega arith in
    rw (a, b) (ap (λ (s : List ℕ). s ++ part m (0 + 8 * j) 8) (joined_pieces m j) ∙ sym (part_add m 0 (8 * j) 8))

module _ (E : List ℕ → List ℕ) (m : List ℕ) where
  last_complete : length (piece m (block_count m)) ≡ 8 → message_block E m (block_count m) ≡ xor_bytes (K1 E) (piece m (block_count m))
  unfolding last_block
  last_complete e = block_last E m (block_count m) (omega arith) ∙ rw (eq-eqb (length (piece m (block_count m))) 8 e)

  last_padded : (length (piece m (block_count m)) ≡ 8 → ⊥)
      → message_block E m (block_count m) ≡ xor_bytes (K2 E) (piece m (block_count m) ++ (0x80 ∷ zeros (8 * block_count m - length m - 1)))
  unfolding last_block
  last_padded n =
      let q : 7 - length (piece m (block_count m)) ≡ 8 * block_count m - length m - 1 = simp (length-take, length-drop) (omega (arith, count_positive m, count_start m, count_rest m)) in
      block_last E m (block_count m) (omega arith) ∙ rw (ne_eqb (length (piece m (block_count m))) 8 n, q)

  C_next : (i : ℕ) → 0 < i → i ≤ block_count m → chain_value E (zeros 8) m i ≡ E (xor_bytes (chain_value E (zeros 8) m (i - 1)) (message_block E m i))
  unfolding chain
  C_next zero h l = absurd (omega arith)
  C_next (suc j) h l = let q : suc j - 1 ≡ j = omega arith in rw q

  pub mac_steps : MacSteps E m
  unfolding block_count cmac chain
  mac_steps =
      record {
        subkeys = subkey_steps E;
        count_empty = λ e. rw e;
        count_above = λ h. let n : length m ≡ 0 → ⊥ = λ e. omega arith in rw (ne_eqb (length m) 0 n) (omega arith);
        count_below = λ h. count_rest m;
        cut = joined_pieces m (block_count m) ∙ take_all (8 * block_count m) m (count_rest m);
        complete = λ i h l. length_part m (8 * (i - 1)) 8 (count_whole m i h l);
        before_last = λ i h l. block_before E m i l;
        last_complete = last_complete;
        last_padded = last_padded;
        C_start = refl;
        C_next = C_next;
        tag = refl;
      }
