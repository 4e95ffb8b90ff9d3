-- The steps of a round of PRESENT (A. Bogdanov and others, "PRESENT: An Ultra-Lightweight Block Cipher", CHES 2007; ISO/IEC 29192-2).
-- The state b_63 .. b_0 is the number below 2 ^ 64 whose bit i is b_i.
use Rattle.std.specs.Prelude.{ℕ, ◌*◌, ◌%◌, ◌^◌, List, [], ◌∷◌, eqb, get_or}
use Rattle.std.specs.Int.Bits.{bit_xor}
use Rattle.octets.specs.Bytes.{if◌then◌otherwise◌}
use Rattle.present_rounds.specs.Digits.{sum, bit, nibble}

-- ---- section 3: the three steps of a round

-- addRoundKey: b_j becomes b_j ⊕ κ_j
abbrev pub add_round_key : ℕ → ℕ → ℕ
add_round_key s k = bit_xor s k

-- the S-box
unfoldable pub boxes : List ℕ
boxes = 0xC ∷ 0x5 ∷ 0x6 ∷ 0xB ∷ 0x9 ∷ 0x0 ∷ 0xA ∷ 0xD ∷ 0x3 ∷ 0xE ∷ 0xF ∷ 0x8 ∷ 0x4 ∷ 0x7 ∷ 0x1 ∷ 0x2 ∷ []

unfoldable pub sbox : ℕ → ℕ
sbox x = get_or boxes x 0

-- sBoxLayer: the words w_15 .. w_0 of four bits become S[w_15] .. S[w_0]
unfoldable pub s_box_layer : ℕ → ℕ
s_box_layer s = sum 16 (λ i. sbox (nibble s i) * 16 ^ i)

-- P(i), the place that bit i moves to: 16 * i mod 63, and bit 63 stays
unfoldable pub place : ℕ → ℕ
place i = if eqb i 63 then 63 otherwise 16 * i % 63

-- pLayer: bit i of the state moves to place P(i)
unfoldable pub p_layer : ℕ → ℕ
p_layer s = sum 64 (λ i. bit s i * 2 ^ place i)

-- ---- the inverse steps

-- the inverse of the S-box: what the S-box takes to x
unfoldable pub inverse_boxes : List ℕ
inverse_boxes = 0x5 ∷ 0xE ∷ 0xF ∷ 0x8 ∷ 0xC ∷ 0x1 ∷ 0x2 ∷ 0xD ∷ 0xB ∷ 0x4 ∷ 0x6 ∷ 0x3 ∷ 0x0 ∷ 0x7 ∷ 0x9 ∷ 0xA ∷ []

unfoldable pub inverse_box : ℕ → ℕ
inverse_box x = get_or inverse_boxes x 0

unfoldable pub inverse_sBox_layer : ℕ → ℕ
inverse_sBox_layer s = sum 16 (λ i. inverse_box (nibble s i) * 16 ^ i)

-- the bit at place P(i) moves back to place i
unfoldable pub inverse_pLayer : ℕ → ℕ
inverse_pLayer s = sum 64 (λ i. bit s (place i) * 2 ^ i)
