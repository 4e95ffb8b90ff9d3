-- PRESENT (A. Bogdanov and others, "PRESENT: An Ultra-Lightweight Block Cipher", CHES 2007; ISO/IEC 29192-2): section 3.
-- The state is a number below 2 ^ 64; keys i is the round key K_i, i = 1 to 32.
use Rattle.std.specs.Prelude.{ℕ, zero, suc, ◌-◌}
use Rattle.present_rounds.specs.Layers.{add_round_key, s_box_layer, p_layer, inverse_sBox_layer, inverse_pLayer}

-- ---- encryption: for i = 1 to 31 addRoundKey(STATE, K_i), sBoxLayer, pLayer; then addRoundKey(STATE, K_32)

-- round i
unfoldable pub round : (ℕ → ℕ) → ℕ → ℕ → ℕ
round keys i s = p_layer (s_box_layer (add_round_key s (keys i)))

-- the state after rounds 1 to r
unfoldable pub after : (ℕ → ℕ) → ℕ → ℕ → ℕ
after keys s zero = s
after keys s (suc r) = round keys (suc r) (after keys s r)

unfoldable pub encrypt : (ℕ → ℕ) → ℕ → ℕ
encrypt keys s = add_round_key (after keys s 31) (keys 32)

-- ---- decryption: the inverse steps in the inverse order

-- round i taken back
unfoldable pub inverse_round : (ℕ → ℕ) → ℕ → ℕ → ℕ
inverse_round keys i s = add_round_key (inverse_sBox_layer (inverse_pLayer s)) (keys i)

-- the state after K_32 and the last r rounds are taken back: rounds 31, 30 .. 32 - r
unfoldable pub before : (ℕ → ℕ) → ℕ → ℕ → ℕ
before keys s zero = add_round_key s (keys 32)
before keys s (suc r) = inverse_round keys (32 - suc r) (before keys s r)

unfoldable pub decrypt : (ℕ → ℕ) → ℕ → ℕ
decrypt keys s = before keys s 31
