-- CMAC of NIST SP 800-38B with a block of 64 bits (8 bytes) and a tag of the same length. E is the cipher under a key.
use Rattle.std.specs.Prelude.{ℕ, zero, suc, ◌+◌, ◌-◌, ◌*◌, ◌/◌, ◌%◌, List, [], ◌∷◌, ◌++◌, eqb, ltb, length, get_or}
use Rattle.octets.specs.Bytes.{zeros, part, if◌then◌otherwise◌}
use Rattle.modes.specs.Xor.{xor_bytes}

-- 4.2, X << 1: each byte loses its top bit and takes over that of the byte after it
unfoldable pub shift_left : List ℕ → List ℕ
shift_left [] = []
shift_left (x ∷ s) = (x % 128 * 2 + get_or s 0 0 / 128) ∷ shift_left s

-- 5.3: R_64 = 0^59 ‖ 11011
abbrev pub R64 : List ℕ
R64 = 0 ∷ 0 ∷ 0 ∷ 0 ∷ 0 ∷ 0 ∷ 0 ∷ 0x1b ∷ []

-- 6.1, steps 2 and 3: b << 1, with R_64 added where the top bit of b is 1
unfoldable pub double : List ℕ → List ℕ
double b = if ltb (get_or b 0 0) 128 then shift_left b otherwise xor_bytes (shift_left b) R64

module _ (E : List ℕ → List ℕ) where
  -- 6.1, step 1
  abbrev pub L : List ℕ
  L = E (zeros 8)

  -- 6.1, step 2
  abbrev pub K1 : List ℕ
  K1 = double L

  -- 6.1, step 3
  abbrev pub K2 : List ℕ
  K2 = double K1

-- 6.2, step 2: n
unfoldable pub block_count : List ℕ → ℕ
block_count m = if eqb (length m) 0 then 1 otherwise (length m + 7) / 8

-- 6.2, step 3: M_i, counted from 1; the last one, M_n*, may be short or empty
abbrev pub piece : List ℕ → ℕ → List ℕ
piece m i = part m (8 * (i - 1)) 8

-- 6.2, step 4: M_n, made of M_n* with K1 or K2
unfoldable pub last_block : List ℕ → List ℕ → List ℕ → List ℕ
last_block k1 k2 s = if eqb (length s) 8 then xor_bytes k1 s otherwise xor_bytes k2 (s ++ (0x80 ∷ zeros (7 - length s)))

-- 6.2, steps 3 and 4: M_1 … M_n
unfoldable pub message_block : (List ℕ → List ℕ) → List ℕ → ℕ → List ℕ
message_block E m i = if ltb i (block_count m) then piece m i otherwise last_block (K1 E) (K2 E) (piece m i)

-- 6.2, step 6: C_i = E (C_{i-1} ⊕ M_i), from any C_0 and over any blocks M
unfoldable pub chain : (List ℕ → List ℕ) → List ℕ → (ℕ → List ℕ) → ℕ → List ℕ
chain E c M zero = c
chain E c M (suc i) = E (xor_bytes (chain E c M i) (M (suc i)))

-- the same over the blocks of the message m
abbrev pub chain_value : (List ℕ → List ℕ) → List ℕ → List ℕ → ℕ → List ℕ
chain_value E c m i = chain E c (message_block E m) i

-- 6.2, steps 5 and 7: C_0 = 0^64, T = C_n
unfoldable pub cmac : (List ℕ → List ℕ) → List ℕ → List ℕ
cmac E m = chain_value E (zeros 8) m (block_count m)
