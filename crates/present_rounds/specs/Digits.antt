-- Sums, and the bits and nibbles of a number, counted from the right as the paper counts them.
use Rattle.std.specs.Prelude.{ℕ, zero, suc, ◌+◌, ◌/◌, ◌%◌, ◌^◌}

-- f 0 + f 1 + .. + f (n - 1)
unfoldable pub sum : ℕ → (ℕ → ℕ) → ℕ
sum zero f = 0
sum (suc n) f = sum n f + f n

-- bit i of x
abbrev pub bit : ℕ → ℕ → ℕ
bit x i = x / 2 ^ i % 2

-- nibble i of x: bits 4 * i + 3 to 4 * i
abbrev pub nibble : ℕ → ℕ → ℕ
nibble x i = x / 16 ^ i % 16
