-- The layers of a round: blocks go to blocks, and each inverse layer undoes its layer.
use mathlib.Core.Path.{◌≡◌, sym, ap, ap₂, ◌∙◌, subst}
use Prim.Native.Nat.{ℕ, ◌+◌, ◌*◌, ◌/◌, ◌%◌, ◌^◌, ◌<◌}
use native.Mathlib.Omega.{arith}
use lib.Bits.{bit_xor, xor_lt}
use lib.Dec.{lit<, eqb, eqb→eq, ltb, ltb→lt}
use Rattle.octets.proofs.Test.{below, agree2}
use Rattle.present_rounds.specs.Digits.{sum, bit, nibble}
use Rattle.present_rounds.specs.Layers.{boxes, sbox, s_box_layer, place, p_layer, inverse_boxes, inverse_box, inverse_sBox_layer, inverse_pLayer}
use Rattle.present_rounds.proofs.Digits.{sum_ext, sum_parts, sum_swap, digits_sum_lt, digit_sum, bit_lt, nibble_lt, bits_sum, nibbles_sum, bits_ext, bit_xor_lem}

-- ---- a box on each nibble

abbrev pub box_layer : (ℕ → ℕ) → ℕ → ℕ
box_layer f s = sum 16 (λ i. f (nibble s i) * 16 ^ i)

-- f takes nibbles to nibbles
pub record Box (f : ℕ → ℕ) : Type 0 where
  pub at : (x : ℕ) → x < 16 → f x < 16

pub sbox_box : Box sbox
unfolding sbox boxes
sbox_box = record { at = λ x h. ltb→lt (sbox x) 16 (below 16 (λ x. ltb (sbox x) 16) tt x h) }

pub inverse_box_lem : Box inverse_box
unfolding inverse_box inverse_boxes
inverse_box_lem = record { at = λ x h. ltb→lt (inverse_box x) 16 (below 16 (λ x. ltb (inverse_box x) 16) tt x h) }

pub same_box : Box (λ x. x)
same_box = record { at = λ x h. h }

module _ (f : ℕ → ℕ) (box : Box f) (s : ℕ) where
  pub layer_lt : box_layer f s < 2 ^ 64
  layer_lt = digits_sum_lt 16 (lit< tt) 16 (λ i. f (nibble s i)) (λ i. box.at (nibble s i) (nibble_lt s i))

  pub nibble_layer : (j : ℕ) → j < 16 → nibble (box_layer f s) j ≡ f (nibble s j)
  nibble_layer = digit_sum 16 (lit< tt) 16 (λ i. f (nibble s i)) (λ i. box.at (nibble s i) (nibble_lt s i))

boxes_back : (f g : ℕ → ℕ) → Box f → ((x : ℕ) → x < 16 → g (f x) ≡ x) → (s : ℕ) → s < 2 ^ 64 → box_layer g (box_layer f s) ≡ s
boxes_back f g box back s h =
    sum_ext 16 (λ i l. ap (λ (x : ℕ). x * 16 ^ i) (ap g (nibble_layer f box s i l) ∙ back (nibble s i) (nibble_lt s i)))
    ∙ nibbles_sum 16 s h

inverse_box_sbox : (x : ℕ) → x < 16 → inverse_box (sbox x) ≡ x
unfolding sbox boxes inverse_box inverse_boxes
inverse_box_sbox x h = eqb→eq (inverse_box (sbox x)) x (below 16 (λ x. eqb (inverse_box (sbox x)) x) tt x h)

sbox_inverse_box : (x : ℕ) → x < 16 → sbox (inverse_box x) ≡ x
unfolding sbox boxes inverse_box inverse_boxes
sbox_inverse_box x h = eqb→eq (sbox (inverse_box x)) x (below 16 (λ x. eqb (sbox (inverse_box x)) x) tt x h)

pub inverse_s_box_layer : (s : ℕ) → s < 2 ^ 64 → inverse_sBox_layer (s_box_layer s) ≡ s
unfolding s_box_layer inverse_sBox_layer
inverse_s_box_layer = boxes_back sbox inverse_box sbox_box inverse_box_sbox

pub s_box_layer_inverse : (s : ℕ) → s < 2 ^ 64 → s_box_layer (inverse_sBox_layer s) ≡ s
unfolding s_box_layer inverse_sBox_layer
s_box_layer_inverse = boxes_back inverse_box sbox inverse_box_lem sbox_inverse_box

pub s_box_layer_lt : (s : ℕ) → s_box_layer s < 2 ^ 64
unfolding s_box_layer
s_box_layer_lt = layer_lt sbox sbox_box

pub inverse_sBox_layer_lt : (s : ℕ) → inverse_sBox_layer s < 2 ^ 64
unfolding inverse_sBox_layer
inverse_sBox_layer_lt = layer_lt inverse_box inverse_box_lem

-- ---- the bits moved

-- where the bit at place m came from
abbrev pub source : ℕ → ℕ
source m = m % 16 * 4 + m / 16

-- bit b of nibble j moves to place 16 * b + j
pub place_nibble : (j b : ℕ) → j < 16 → b < 4 → place (j * 4 + b) ≡ b * 16 + j
unfolding place
place_nibble = agree2 16 4 (λ j b. place (j * 4 + b)) (λ j b. b * 16 + j) tt

pub place_lt : (i : ℕ) → i < 64 → place i < 64
unfolding place
place_lt i h = ltb→lt (place i) 64 (below 64 (λ i. ltb (place i) 64) tt i h)

source_place : (i : ℕ) → i < 64 → source (place i) ≡ i
unfolding place
source_place i h = eqb→eq (source (place i)) i (below 64 (λ i. eqb (source (place i)) i) tt i h)

source_nibble : (j b : ℕ) → j < 16 → source (b * 16 + j) ≡ j * 4 + b
source_nibble j b h = omega arith

-- a sum over the bits, and over the places that they move to
pub by_places : (f : ℕ → ℕ → ℕ) → sum 64 (λ i. f i (place i)) ≡ sum 64 (λ m. f (source m) m)
by_places f =
    sum_parts 16 4 (λ i. f i (place i))
    ∙ sum_swap 16 4 (λ j b. f (j * 4 + b) (place (j * 4 + b)))
    ∙ sum_ext 4 (λ b hb. sum_ext 16 (λ j hj. ap₂ f (sym (source_nibble j b hj)) (place_nibble j b hj hb)))
    ∙ sym (sum_parts 4 16 (λ m. f (source m) m))

pub p_layer_bits : (s : ℕ) → p_layer s ≡ sum 64 (λ m. bit s (source m) * 2 ^ m)
unfolding p_layer
p_layer_bits s = by_places (λ i m. bit s i * 2 ^ m)

pub p_layer_lt : (s : ℕ) → p_layer s < 2 ^ 64
p_layer_lt s = subst (λ (x : ℕ). x < 2 ^ 64) (sym (p_layer_bits s)) (digits_sum_lt 2 (lit< tt) 64 (λ m. bit s (source m)) (λ m. bit_lt s (source m)))

pub inverse_pLayer_lt : (s : ℕ) → inverse_pLayer s < 2 ^ 64
unfolding inverse_pLayer
inverse_pLayer_lt s = digits_sum_lt 2 (lit< tt) 64 (λ i. bit s (place i)) (λ i. bit_lt s (place i))

bit_p_layer : (s m : ℕ) → m < 64 → bit (p_layer s) m ≡ bit s (source m)
bit_p_layer s m h = ap (λ (x : ℕ). bit x m) (p_layer_bits s) ∙ digit_sum 2 (lit< tt) 64 (λ m. bit s (source m)) (λ m. bit_lt s (source m)) m h

pub bit_inverse_pLayer : (s i : ℕ) → i < 64 → bit (inverse_pLayer s) i ≡ bit s (place i)
unfolding inverse_pLayer
bit_inverse_pLayer s = digit_sum 2 (lit< tt) 64 (λ i. bit s (place i)) (λ i. bit_lt s (place i))

pub inverse_p_layer : (s : ℕ) → s < 2 ^ 64 → inverse_pLayer (p_layer s) ≡ s
inverse_p_layer s h =
    bits_ext 64 (inverse_pLayer (p_layer s)) s (inverse_pLayer_lt (p_layer s)) h
    (λ i l. bit_inverse_pLayer (p_layer s) i l ∙ bit_p_layer s (place i) (place_lt i l) ∙ ap (bit s) (source_place i l))

pub p_layer_inverse : (s : ℕ) → s < 2 ^ 64 → p_layer (inverse_pLayer s) ≡ s
unfolding p_layer
p_layer_inverse s h =
    sum_ext 64 (λ i l. ap (λ (b : ℕ). b * 2 ^ place i) (bit_inverse_pLayer s i l))
    ∙ by_places (λ i m. bit s m * 2 ^ m)
    ∙ bits_sum 64 s h

-- the inverse of pLayer goes bit by bit
pub inverse_pLayer_xor : (x y : ℕ) → inverse_pLayer (bit_xor x y) ≡ bit_xor (inverse_pLayer x) (inverse_pLayer y)
inverse_pLayer_xor x y =
    bits_ext 64 (inverse_pLayer (bit_xor x y)) (bit_xor (inverse_pLayer x) (inverse_pLayer y)) (inverse_pLayer_lt (bit_xor x y))
    (xor_lt 64 _ _ (inverse_pLayer_lt x) (inverse_pLayer_lt y))
    (λ i l.
    bit_inverse_pLayer (bit_xor x y) i l
    ∙ bit_xor_lem x y (place i)
    ∙ sym (bit_xor_lem (inverse_pLayer x) (inverse_pLayer y) i ∙ ap₂ bit_xor (bit_inverse_pLayer x i l) (bit_inverse_pLayer y i l)))

-- done twice it is pLayer
source_twice : (i : ℕ) → i < 64 → place (place i) ≡ source i
unfolding place
source_twice i h = eqb→eq (place (place i)) (source i) (below 64 (λ i. eqb (place (place i)) (source i)) tt i h)

pub inverse_pLayer_twice : (s : ℕ) → inverse_pLayer (inverse_pLayer s) ≡ p_layer s
inverse_pLayer_twice s =
    bits_ext 64 (inverse_pLayer (inverse_pLayer s)) (p_layer s) (inverse_pLayer_lt (inverse_pLayer s)) (p_layer_lt s)
    (λ i l.
    bit_inverse_pLayer (inverse_pLayer s) i l
    ∙ bit_inverse_pLayer s (place i) (place_lt i l)
    ∙ ap (bit s) (source_twice i l)
    ∙ sym (bit_p_layer s i l))
