-- SP 800-38A, 6.2, block by block: what CBC makes of n blocks x from the start block c, which is C_0.
use Rattle.std.specs.Prelude.{ℕ, ◌+◌, ◌*◌, ◌<◌, ◌≡◌, List, ◌++◌, length}
use Rattle.octets.specs.Bytes.{part}
use Rattle.modes.specs.Xor.{xor_bytes}
use Rattle.modes.specs.Cbc.{cbc_encrypt, cbc_decrypt}

pub record CbcSteps (E D : List ℕ → List ℕ) (n : ℕ) (c x : List ℕ) : Type 0 where
  -- n blocks out
  pub encrypted_size : length (cbc_encrypt E n c x) ≡ 8 * n
  pub decrypted_size : length (cbc_decrypt D n c x) ≡ 8 * n
  -- C_j = E (P_j ⊕ C_(j-1)) for j = 1 to n: x is P_1 … P_n, and c with what x is encrypted to is C_0 … C_n
  pub encrypts : (j : ℕ) → j < n
      → part (c ++ cbc_encrypt E n c x) (8 * (j + 1)) 8 ≡ E (xor_bytes (part x (8 * j) 8) (part (c ++ cbc_encrypt E n c x) (8 * j) 8))
  -- P_j = D (C_j) ⊕ C_(j-1) for j = 1 to n: x is C_1 … C_n
  pub decrypts : (j : ℕ) → j < n → part (cbc_decrypt D n c x) (8 * j) 8 ≡ xor_bytes (D (part x (8 * j) 8)) (part (c ++ x) (8 * j) 8)
