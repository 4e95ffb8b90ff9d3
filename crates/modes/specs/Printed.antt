-- SP 800-38B, 6.1 and 6.2, as printed: each step's sentence of the names that it gives, in the standard's order, for any cipher E and any message m.
use Rattle.std.specs.Prelude.{ℕ, zero, suc, ◌+◌, ◌-◌, ◌*◌, ◌/◌, ◌^◌, ◌≤◌, ◌<◌, ◌≡◌, List, [], ◌∷◌, ◌++◌, length, get_or}
use Rattle.octets.specs.Bytes.{Bytes, number, zeros}
use Rattle.modes.specs.Xor.{xor_bytes}
use Rattle.modes.specs.Cmac.{shift_left, R64, L, K1, K2, block_count, piece, message_block, chain_value, cmac}

-- P_1 ‖ P_2 ‖ … ‖ P_n
unfoldable pub joined : (ℕ → List ℕ) → ℕ → List ℕ
joined P zero = []
joined P (suc n) = joined P n ++ P (suc n)

-- 6.1
pub record SubkeySteps (E : List ℕ → List ℕ) : Type 0 where
  -- X << 1 (4.2): as many bytes, whose number is doubled without the top bit
  pub shift_length : (b : List ℕ) → length (shift_left b) ≡ length b
  pub shift_bytes : (b : List ℕ) → Bytes b → Bytes (shift_left b)
  pub shift_number : (b : List ℕ) → number (shift_left b) + get_or b 0 0 / 128 * 256 ^ length b ≡ number b * 2
  -- R_64 (5.3): 59 zero bits and 11011
  pub constant : R64 ≡ zeros 7 ++ (0x1b ∷ [])
  -- step 1: L = CIPH_K(0^64)
  pub L_is : L E ≡ E (zeros 8)
  -- step 2: if the top bit of L is 0, K1 = L << 1, else K1 = (L << 1) ⊕ R_64
  pub K1_shifted : get_or (L E) 0 0 < 128 → K1 E ≡ shift_left (L E)
  pub K1_added : 128 ≤ get_or (L E) 0 0 → K1 E ≡ xor_bytes (shift_left (L E)) R64
  -- step 3: if the top bit of K1 is 0, K2 = K1 << 1, else K2 = (K1 << 1) ⊕ R_64
  pub K2_shifted : get_or (K1 E) 0 0 < 128 → K2 E ≡ shift_left (K1 E)
  pub K2_added : 128 ≤ get_or (K1 E) 0 0 → K2 E ≡ xor_bytes (shift_left (K1 E)) R64

-- 6.2. n is block_count m, M_i is message_block E m i, M_n* is piece m n, and C_i is chain_value E (zeros 8) m i
pub record MacSteps (E : List ℕ → List ℕ) (m : List ℕ) : Type 0 where
  -- step 1
  pub subkeys : SubkeySteps E
  -- step 2: if Mlen = 0, n = 1, else n = ⌈Mlen / 64⌉
  pub count_empty : length m ≡ 0 → block_count m ≡ 1
  pub count_above : 0 < length m → 8 * (block_count m - 1) < length m
  pub count_below : 0 < length m → length m ≤ 8 * block_count m
  -- step 3: M = M_1 ‖ M_2 ‖ … ‖ M_{n-1} ‖ M_n*, and M_1 to M_{n-1} are complete blocks
  pub cut : joined (piece m) (block_count m) ≡ m
  pub complete : (i : ℕ) → 0 < i → i < block_count m → length (piece m i) ≡ 8
  pub before_last : (i : ℕ) → 0 < i → i < block_count m → message_block E m i ≡ piece m i
  -- step 4: if M_n* is a complete block, M_n = K1 ⊕ M_n*, else M_n = K2 ⊕ (M_n* ‖ 10^j) and j = n · 64 - Mlen - 1:
  -- the byte 0x80 is the 1 and seven zeros, so that as many zero bytes follow as n blocks have more than the message and that byte
  pub last_complete : length (piece m (block_count m)) ≡ 8 → message_block E m (block_count m) ≡ xor_bytes (K1 E) (piece m (block_count m))
  pub last_padded : (length (piece m (block_count m)) ≡ 8 → ⊥)
      → message_block E m (block_count m) ≡ xor_bytes (K2 E) (piece m (block_count m) ++ (0x80 ∷ zeros (8 * block_count m - length m - 1)))
  -- step 5: C_0 = 0^64
  pub C_start : chain_value E (zeros 8) m 0 ≡ zeros 8
  -- step 6: for i = 1 to n, C_i = CIPH_K(C_{i-1} ⊕ M_i)
  pub C_next : (i : ℕ) → 0 < i → i ≤ block_count m → chain_value E (zeros 8) m i ≡ E (xor_bytes (chain_value E (zeros 8) m (i - 1)) (message_block E m i))
  -- steps 7 and 8: T = C_n
  pub tag : cmac E m ≡ chain_value E (zeros 8) m (block_count m)
