-- 16-bit words and their four nibbles.
use Rattle.std.specs.Prelude.{ℕ, zero, suc, ◌+◌, ◌*◌, ◌-◌, ◌/◌, ◌%◌, ◌^◌}
use Rattle.std.specs.Int.Bits.{bit_xor}

-- the word w rotated left by one bit
unfoldable pub rotate1 : ℕ → ℕ
rotate1 w = w * 2 % 65536 + w / 32768

-- the word w rotated left by k bits
unfoldable pub rotate : ℕ → ℕ → ℕ
rotate zero w = w
rotate (suc k) w = rotate1 (rotate k w)

-- the word whose nibbles, from the left, are f 0 to f 3
abbrev pub row : (ℕ → ℕ) → ℕ
row f = ((f 0 * 16 + f 1) * 16 + f 2) * 16 + f 3

-- nibble i, counted from the left, of the word w
abbrev pub nibble : ℕ → ℕ → ℕ
nibble w i = w / 2 ^ (12 - 4 * i) % 16

-- the exclusive or over k = 0 to 3 of f k
abbrev pub xor4 : (ℕ → ℕ) → ℕ
xor4 f = bit_xor (bit_xor (f 0) (f 1)) (bit_xor (f 2) (f 3))
