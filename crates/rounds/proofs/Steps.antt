-- What the functions of a round hand back, one law for each way out.
use mathlib.Core.Path.{◌≡◌, sym, ap, ap₂, ◌∙◌, subst}
use mathlib.Core.List.{List, [], ◌∷◌}
use Prim.Native.Nat.{ℕ, zero, suc, ◌+◌, ◌*◌, ◌-◌, ◌/◌, ◌%◌, ◌^◌, ◌<◌}
use native.Mathlib.Nat.{lt_of_le_of_lt}
use native.Mathlib.Omega.{arith}
use lib.Bits.{bit_and, bit_xor, xor_lt, and_le_l, and_shr, and_mod}
use lib.ListN.{get_or}
use Rattle.octets.proofs.Test.{agree3}
use Rattle.rounds.specs.Word.{rotate, row, nibble, xor4}
use Rattle.rounds.specs.Array.{cell, sboxes, sbox, offset, mask, γ, φ}
use Rattle.rounds.specs.declared.Direction.{Direction}
use Rattle.rounds.proofs.Xor4.{xor4_ext, xor4_cycle}
use Rattle.rounds.proofs.Rotation.{rotate_lt, rotate_add, shift_four}
use Rattle.rounds.proofs.Blocks.{nibble_lt, nibble_row, row_ext, row_nibble, sbox_lt, nibble_xor, φ_rows}

pub sub_is : {r : ℕ} (s x : ℕ) → x < 16 → r ≡ get_or (get_or sboxes (s % 4) []) x 0 → (r ≡ sbox s x) × (r < 16)
unfolding sbox
sub_is s x h g = (g, subst (λ (n : ℕ). n < 16) (sym g) (sbox_lt s x h))

pub gamma_is : (d : Direction) (a : List ℕ) (o : ℕ) {p q r s : ℕ} → o ≡ offset d
    → p ≡ row (λ i. sbox (i + 0 + o) (cell a 0 i)) → q ≡ row (λ i. sbox (i + 1 + o) (cell a 1 i))
    → r ≡ row (λ i. sbox (i + 2 + o) (cell a 2 i)) → s ≡ row (λ i. sbox (i + 3 + o) (cell a 3 i))
    → p ∷ q ∷ r ∷ s ∷ [] ≡ γ d a
unfolding γ
gamma_is d a o e p q r s = rw (p, q, r, s, e)

-- ---- φ by rotations

nibble_and : (v w i : ℕ) → nibble (bit_and v w) i ≡ bit_and (nibble v i) (nibble w i)
nibble_and v w i = ap (λ (x : ℕ). x % 16) (and_shr v w (12 - 4 * i)) ∙ and_mod (v / 2 ^ (12 - 4 * i)) (w / 2 ^ (12 - 4 * i)) 4

-- a rotation by four bits takes each nibble one place to the left
turn_row : (w a b c d : ℕ) → a < 16 → b < 16 → c < 16 → d < 16 → ((a * 16 + b) * 16 + c) * 16 + d ≡ w
    → w % 4096 * 16 + w / 4096 ≡ ((b * 16 + c) * 16 + d) * 16 + a
turn_row w a b c d ha hb hc hd e = omega arith

module _ (w : ℕ) (h : w < 65536) where
  turned_row : rotate 4 w ≡ row (λ j. nibble w ((j + 1) % 4))
  turned_row =
      shift_four h
      ∙ turn_row w (nibble w 0) (nibble w 1) (nibble w 2) (nibble w 3) (nibble_lt w 0) (nibble_lt w 1) (nibble_lt w 2) (nibble_lt w 3) (row_nibble w h)

  nibble_turn : (j : ℕ) → j < 4 → nibble (rotate 4 w) j ≡ nibble w ((j + 1) % 4)
  nibble_turn j l = ap (λ (x : ℕ). nibble x j) turned_row ∙ nibble_row (λ j. nibble w ((j + 1) % 4)) (λ j. nibble_lt w ((j + 1) % 4)) j l

-- k such rotations take it k places
nibble_turns : (k w j : ℕ) → w < 65536 → j < 4 → nibble (rotate (4 * k) w) j ≡ nibble w ((j + k) % 4)
unfolding rotate
nibble_turns zero w j h l = ap (nibble w) (same j l)
  where
    same : (j : ℕ) → j < 4 → j ≡ (j + 0) % 4
    same j l = omega arith
nibble_turns (suc k) w j h l =
    ap (λ (x : ℕ). nibble x j) (ap (λ (m : ℕ). rotate m w) (next k) ∙ sym (rotate_add 4 (4 * k) w))
    ∙ nibble_turn (rotate (4 * k) w) (rotate_lt (4 * k) h) j l
    ∙ nibble_turns k w ((j + 1) % 4) h (less j)
    ∙ ap (nibble w) (on j k)
  where
    next : (k : ℕ) → 4 * suc k ≡ 4 + 4 * k
    next k = omega arith

    less : (j : ℕ) → (j + 1) % 4 < 4
    less j = omega arith

    on : (j k : ℕ) → ((j + 1) % 4 + k) % 4 ≡ (j + suc k) % 4
    on j k = omega arith

abbrev row_mask : ℕ → ℕ
row_mask i = get_or (0xebeb ∷ 0xd7d7 ∷ 0xbebe ∷ 0x7d7d ∷ []) i 0

-- nibble j of the masks for a rotation by k nibbles
mask_nibble : (i j k : ℕ) → i < 4 → j < 4 → k < 4 → nibble (row_mask ((i + k) % 4)) j ≡ mask (i + j + (j + k) % 4)
mask_nibble = agree3 4 4 4 (λ i j k. nibble (row_mask ((i + k) % 4)) j) (λ i j k. mask (i + j + (j + k) % 4)) tt

module _ (w i : ℕ) (h : w < 65536) (hi : i < 4) where
  turn : ℕ → ℕ
  turn k = bit_and (rotate (4 * k) w) (row_mask ((i + k) % 4))

  turn_lt : (k : ℕ) → turn k < 65536
  unfolding turn
  turn_lt k = lt_of_le_of_lt (and_le_l (rotate (4 * k) w) (row_mask ((i + k) % 4))) (rotate_lt (4 * k) h)

  nibble_turned : (j k : ℕ) → j < 4 → k < 4 → nibble (turn k) j ≡ bit_and (nibble w ((j + k) % 4)) (mask (i + j + (j + k) % 4))
  unfolding turn
  nibble_turned j k hj hk =
      nibble_and (rotate (4 * k) w) (row_mask ((i + k) % 4)) j ∙ ap₂ bit_and (nibble_turns k w j h hj) (mask_nibble i j k hi hj hk)

  by_turns : xor4 turn ≡ row (λ j. xor4 (λ k. bit_and (nibble w k) (mask (i + j + k))))
  by_turns =
      sym (row_nibble (xor4 turn) (xor_lt 16 _ _ (xor_lt 16 _ _ (turn_lt 0) (turn_lt 1)) (xor_lt 16 _ _ (turn_lt 2) (turn_lt 3))))
      ∙ row_ext (λ j hj.
      nibble_xor (bit_xor (turn 0) (turn 1)) (bit_xor (turn 2) (turn 3)) j
      ∙ ap₂ bit_xor (nibble_xor (turn 0) (turn 1) j) (nibble_xor (turn 2) (turn 3) j)
      ∙ xor4_ext {f = λ k. nibble (turn k) j} (λ k hk. nibble_turned j k hj hk)
      ∙ xor4_cycle (λ l. bit_and (nibble w l) (mask (i + j + l))) j hj)

  pub phi_row_is : {p q r : ℕ} → p ≡ rotate 4 w → q ≡ rotate 8 w → r ≡ rotate 12 w
      → bit_xor (bit_xor (bit_and w (row_mask i)) (bit_and p (row_mask ((i + 1) % 4)))) (bit_xor (bit_and q (row_mask ((i + 2) % 4))) (bit_and r (row_mask ((i + 3) % 4))))
      ≡ row (λ j. xor4 (λ k. bit_and (nibble w k) (mask (i + j + k))))
  unfolding turn rotate
  phi_row_is p q r = rw (p, q, r) (ap (λ (m : ℕ). bit_xor (bit_xor (bit_and w (row_mask m)) (turn 1)) (bit_xor (turn 2) (turn 3))) (same i hi) ∙ by_turns)
    where
      same : (i : ℕ) → i < 4 → i ≡ (i + 0) % 4
      same i l = omega arith

pub phi_is : (a : List ℕ) {p q r s : ℕ}
    → p ≡ row (λ j. xor4 (λ k. bit_and (cell a 0 k) (mask (0 + j + k)))) → q ≡ row (λ j. xor4 (λ k. bit_and (cell a 1 k) (mask (1 + j + k))))
    → r ≡ row (λ j. xor4 (λ k. bit_and (cell a 2 k) (mask (2 + j + k)))) → s ≡ row (λ j. xor4 (λ k. bit_and (cell a 3 k) (mask (3 + j + k))))
    → p ∷ q ∷ r ∷ s ∷ [] ≡ φ a
phi_is a p q r s = rw (p, q, r, s) (sym (φ_rows a))
