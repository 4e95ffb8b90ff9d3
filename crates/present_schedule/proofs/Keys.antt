-- The registers stay within their bits, so that round keys have 64.
use mathlib.Core.Path.{sym, ◌∙◌, subst}
use Prim.Native.Nat.{ℕ, zero, suc, ◌+◌, ◌*◌, ◌-◌, ◌/◌, ◌%◌, ◌^◌, ◌≤◌, ◌<◌}
use native.Mathlib.Nat.{le_of_suc-le, le_of_lt, lt_of_lt_of_le, mod-lt, add_assoc, mul_comm}
use native.Mathlib.Omega.{arith}
use lib.Bits.{xor_lt}
use lib.Pow.{pow_pos, pow-add, shr_lt}
use lib.Arith.{digits_lt}
use lib.Dec.{lit<}
use Rattle.present_rounds.specs.Layers.{sbox}
use Rattle.present_schedule.specs.Schedule.{rotated, boxed, update80, update128, register, round_key80, round_key128}
use Rattle.present_rounds.proofs.Layers.{sbox_box}

-- every round key has 64 bits
pub record Keys (keys : ℕ → ℕ) : Type 0 where
  pub at : (i : ℕ) → i ≤ 32 → keys i < 2 ^ 64

box_lt : (x : ℕ) → sbox (x % 16) < 16
box_lt x = sbox_box.at (x % 16) (omega arith)

-- ---- the steps of an update, for a register of any size

rotated_lt : (m k : ℕ) → k < 2 ^ (61 + m) → k % 2 ^ m * 2 ^ 61 + k / 2 ^ m < 2 ^ m * 2 ^ 61
rotated_lt m k h = digits_lt (mod-lt k (pow_pos m)) (shr_lt 61 m h)

boxed_lt : (m a k : ℕ) → k < 2 ^ (m + (a + 4)) → boxed a k < 2 ^ m * 2 ^ (a + 4)
unfolding boxed
boxed_lt m a k h =
    subst (λ (x : ℕ). x < 2 ^ m * 2 ^ (a + 4)) (sym (add_assoc (k / 2 ^ (a + 4) * 2 ^ (a + 4)) (sbox (k / 2 ^ a % 16) * 2 ^ a) (k % 2 ^ a)))
    (digits_lt (shr_lt m (a + 4) h)
    (subst (λ (x : ℕ). sbox (k / 2 ^ a % 16) * 2 ^ a + k % 2 ^ a < x) (sym (pow-add 2 a 4 ∙ mul_comm (2 ^ a) 16))
    (digits_lt (box_lt (k / 2 ^ a)) (mod-lt k (pow_pos a)))))

update80_lt : (i k : ℕ) → i < 32 → k < 2 ^ 80 → update80 i k < 2 ^ 80
unfolding update80 rotated
update80_lt i k l h = xor_lt 80 _ _ (boxed_lt 0 76 (rotated 80 k) (rotated_lt 19 k h)) (omega arith)

update128_lt : (i k : ℕ) → i < 32 → k < 2 ^ 128 → update128 i k < 2 ^ 128
unfolding update128 rotated
update128_lt i k l h = xor_lt 128 _ _ (boxed_lt 4 120 (boxed 124 (rotated 128 k)) (boxed_lt 0 124 (rotated 128 k) (rotated_lt 67 k h))) (counter_lt i l)
  where
    counter_lt : (i : ℕ) → i < 32 → i * 2 ^ 62 < 2 ^ 128
    counter_lt i l = lt_of_lt_of_le {m = 32 * 2 ^ 62} (omega arith) (le_of_lt (lit< tt))

-- ---- the registers and the round keys

pub register_lt : (update : ℕ → ℕ → ℕ) (n : ℕ) → ((i k : ℕ) → i < 32 → k < 2 ^ n → update i k < 2 ^ n)
    → (k : ℕ) → k < 2 ^ n → (i : ℕ) → i ≤ 31 → register update k i < 2 ^ n
unfolding register
register_lt update n step k h zero l = h
register_lt update n step k h (suc i) l = step (suc i) (register update k i) (omega arith) (register_lt update n step k h i (le_of_suc-le l))

less : (i : ℕ) → i ≤ 32 → i - 1 ≤ 31
less i l = omega arith

pub keys80 : (k : ℕ) → k < 2 ^ 80 → Keys (round_key80 k)
unfolding round_key80
keys80 k h = record { at = λ i l. shr_lt 64 16 (register_lt update80 80 update80_lt k h (i - 1) (less i l)) }

pub keys128 : (k : ℕ) → k < 2 ^ 128 → Keys (round_key128 k)
unfolding round_key128
keys128 k h = record { at = λ i l. shr_lt 64 64 (register_lt update128 128 update128_lt k h (i - 1) (less i l)) }
