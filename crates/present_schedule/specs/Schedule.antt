-- The key schedules of PRESENT: section 3 of the paper for 80 bits, its appendix for 128 bits.
-- The key register k_79 .. k_0 (k_127 .. k_0) is the number whose bit i is k_i.
use Rattle.std.specs.Prelude.{ℕ, zero, suc, ◌+◌, ◌*◌, ◌-◌, ◌/◌, ◌%◌, ◌^◌}
use Rattle.std.specs.Int.Bits.{bit_xor}
use Rattle.present_rounds.specs.Layers.{sbox}

-- a register of n bits rotated by 61 bit positions to the left
unfoldable pub rotated : ℕ → ℕ → ℕ
rotated n k = k % 2 ^ (n - 61) * 2 ^ 61 + k / 2 ^ (n - 61)

-- the four bits k_(a+3) k_(a+2) k_(a+1) k_a passed through the S-box
unfoldable pub boxed : ℕ → ℕ → ℕ
boxed a k = k / 2 ^ (a + 4) * 2 ^ (a + 4) + sbox (k / 2 ^ a % 16) * 2 ^ a + k % 2 ^ a

-- the round counter i added by exclusive or to the bits from k_a on
abbrev pub counted : ℕ → ℕ → ℕ → ℕ
counted a i k = bit_xor k (i * 2 ^ a)

-- ---- 80 bits: rotation, the S-box on k_79 .. k_76, the counter to k_19 .. k_15; a round key is k_79 .. k_16
unfoldable pub update80 : ℕ → ℕ → ℕ
update80 i k = counted 15 i (boxed 76 (rotated 80 k))

-- ---- 128 bits: rotation, the S-box on k_127 .. k_124 and k_123 .. k_120, the counter to k_66 .. k_62; a round key is k_127 .. k_64
unfoldable pub update128 : ℕ → ℕ → ℕ
update128 i k = counted 62 i (boxed 120 (boxed 124 (rotated 128 k)))

-- the register after the updates with the round counters 1 to i
unfoldable pub register : (ℕ → ℕ → ℕ) → ℕ → ℕ → ℕ
register update k zero = k
register update k (suc i) = update (suc i) (register update k i)

-- K_i, the 64 leftmost bits of the register after i - 1 updates
unfoldable pub round_key80 : ℕ → ℕ → ℕ
round_key80 k i = register update80 k (i - 1) / 2 ^ 16

unfoldable pub round_key128 : ℕ → ℕ → ℕ
round_key128 k i = register update128 k (i - 1) / 2 ^ 64
