-- Laws of the exclusive or of four.
use mathlib.Core.Path.{◌≡◌, refl, ap, ap₂, ◌∙◌}
use Prim.Native.Nat.{ℕ, zero, suc, ◌+◌, ◌%◌, ◌<◌}
use native.Mathlib.Omega.{arith}
use lib.Bits.{bit_and, bit_xor, xor_comm}
use lib.Dec.{lit<}
use Rattle.rounds.specs.Word.{xor4}
use Rattle.octets.proofs.Xor.{and_xor, xor_middle}

-- the four indices
pub cases4 : (P : ℕ → Type 0) → P 0 → P 1 → P 2 → P 3 → (k : ℕ) → k < 4 → P k
cases4 P a b c d zero h = a
cases4 P a b c d (suc zero) h = b
cases4 P a b c d (suc (suc zero)) h = c
cases4 P a b c d (suc (suc (suc zero))) h = d
cases4 P a b c d (suc (suc (suc (suc k)))) h = absurd (no h)
  where
    no : suc (suc (suc (suc k))) < 4 → ⊥
    no h = omega arith

pub xor4_ext : {f g : ℕ → ℕ} → ((k : ℕ) → k < 4 → f k ≡ g k) → xor4 f ≡ xor4 g
xor4_ext e = ap₂ bit_xor (ap₂ bit_xor (e 0 (lit< tt)) (e 1 (lit< tt))) (ap₂ bit_xor (e 2 (lit< tt)) (e 3 (lit< tt)))

pub xor4_xor : (f g : ℕ → ℕ) → bit_xor (xor4 f) (xor4 g) ≡ xor4 (λ k. bit_xor (f k) (g k))
xor4_xor f g =
    xor_middle (bit_xor (f 0) (f 1)) (bit_xor (f 2) (f 3)) (bit_xor (g 0) (g 1)) (bit_xor (g 2) (g 3))
    ∙ ap₂ bit_xor (xor_middle (f 0) (f 1) (g 0) (g 1)) (xor_middle (f 2) (f 3) (g 2) (g 3))

pub and_xor4 : (f : ℕ → ℕ) (m : ℕ) → bit_and (xor4 f) m ≡ xor4 (λ k. bit_and (f k) m)
and_xor4 f m = and_xor (bit_xor (f 0) (f 1)) (bit_xor (f 2) (f 3)) m ∙ ap₂ bit_xor (and_xor (f 0) (f 1) m) (and_xor (f 2) (f 3) m)

-- the exclusive or of four rows of four is that of their four columns
pub xor4_transpose : (f : ℕ → ℕ → ℕ) → xor4 (λ k. xor4 (λ l. f k l)) ≡ xor4 (λ l. xor4 (λ k. f k l))
xor4_transpose f =
    (ap₂ bit_xor (xor4_xor (f 0) (f 1)) (xor4_xor (f 2) (f 3))
    ∙ xor4_xor (λ l. bit_xor (f 0 l) (f 1 l)) (λ l. bit_xor (f 2 l) (f 3 l)))

-- the four in another order, from f j on
pub xor4_cycle : (f : ℕ → ℕ) (j : ℕ) → j < 4 → xor4 (λ k. f ((j + k) % 4)) ≡ xor4 f
xor4_cycle f =
    cases4 (λ (j : ℕ). xor4 (λ k. f ((j + k) % 4)) ≡ xor4 f) refl (once f) (xor_comm (bit_xor (f 2) (f 3)) (bit_xor (f 0) (f 1)))
    (xor_comm (bit_xor (f 3) (f 0)) (bit_xor (f 1) (f 2)) ∙ once f)
  where
    once : (f : ℕ → ℕ) → bit_xor (bit_xor (f 1) (f 2)) (bit_xor (f 3) (f 0)) ≡ xor4 f
    once f =
        xor_comm (bit_xor (f 1) (f 2)) (bit_xor (f 3) (f 0))
        ∙ ap (λ (x : ℕ). bit_xor x (bit_xor (f 1) (f 2))) (xor_comm (f 3) (f 0))
        ∙ xor_middle (f 0) (f 3) (f 1) (f 2)
        ∙ ap (bit_xor (bit_xor (f 0) (f 1))) (xor_comm (f 3) (f 2))
