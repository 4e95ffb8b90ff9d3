-- Counter mode of NIST SP 800-38A, 6.5, over blocks of 8 bytes. E is the cipher under a key; its inverse isn't needed.
use Rattle.std.specs.Prelude.{ℕ, zero, suc, ◌+◌, ◌*◌, ◌/◌, ◌%◌, ◌^◌, List, [], ◌++◌, length}
use Rattle.octets.specs.Bytes.{be, part}
use Rattle.modes.specs.Xor.{xor_bytes}

-- T: the counter block of a number, which wraps at 64 bits, high byte first
unfoldable pub T : ℕ → List ℕ
T x = be 8 (x % 2 ^ 64)

-- O_i = E (T_i): block i, from 0, uses the first number plus i
unfoldable pub O : (List ℕ → List ℕ) → ℕ → ℕ → List ℕ
O E first i = E (T (first + i))

-- C_i = P_i ⊕ O_i. The last block of x may be a part; it is added to the leading bytes of its O
unfoldable pub C : (List ℕ → List ℕ) → ℕ → List ℕ → ℕ → List ℕ
C E first x i = xor_bytes (part x (8 * i) 8) (O E first i)

-- n blocks, one after the other
unfoldable pub joined : (ℕ → List ℕ) → ℕ → List ℕ
joined f zero = []
joined f (suc n) = joined f n ++ f n

-- the panel x under the first number, of (length + 7) / 8 blocks: the same both ways
unfoldable pub ctr : (List ℕ → List ℕ) → ℕ → List ℕ → List ℕ
ctr E first x = joined (C E first x) ((length x + 7) / 8)
