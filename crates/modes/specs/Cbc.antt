-- Cipher block chaining of NIST SP 800-38A, 6.2, over blocks of 8 bytes. E and D are the cipher under a key.
use Rattle.std.specs.Prelude.{ℕ, zero, suc, List, [], ◌++◌, take, drop}
use Rattle.modes.specs.Xor.{xor_bytes}

-- the first n blocks of p, encrypted from the chaining value c: C_j = E (P_j ⊕ C_{j-1}), and C_0 is the start block (IV)
unfoldable pub cbc_encrypt : (List ℕ → List ℕ) → ℕ → List ℕ → List ℕ → List ℕ
cbc_encrypt E zero c p = []
cbc_encrypt E (suc n) c p =
    let c' : List ℕ = E (xor_bytes (take 8 p) c) in
    c' ++ cbc_encrypt E n c' (drop 8 p)

-- the first n blocks of s, decrypted from the chaining value c: P_j = D (C_j) ⊕ C_{j-1}
unfoldable pub cbc_decrypt : (List ℕ → List ℕ) → ℕ → List ℕ → List ℕ → List ℕ
cbc_decrypt D zero c s = []
cbc_decrypt D (suc n) c s = xor_bytes (D (take 8 s)) c ++ cbc_decrypt D n (take 8 s) (drop 8 s)
