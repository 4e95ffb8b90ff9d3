-- A statement on every number below n, proved by one test that antt computes.
use mathlib.Core.Path.{◌≡◌, subst}
use mathlib.Core.Bool.{Bool, true, false}
use Prim.Native.Nat.{ℕ, zero, suc, ◌<◌}
use native.Mathlib.Nat.{not-suc-le-zero}
use native.Mathlib.Omega.{arith}
use native.Mathlib.Decide.{dec_lt}
use lib.Dec.{T, eqb, eqb→eq}

abbrev pub both : Bool → Bool → Bool
both true b = b
both false b = false

both_left : (a b : Bool) → T (both a b) → T a
both_left true b t = tt
both_left false b t = t

both_right : (a b : Bool) → T (both a b) → T b
both_right true b t = t
both_right false b t = absurd t

-- the test f passes at each number below n
abbrev pub every : ℕ → (ℕ → Bool) → Bool
every zero f = true
every (suc n) f = both (f n) (every n f)

pub below : (n : ℕ) (f : ℕ → Bool) → T (every n f) → (k : ℕ) → k < n → T (f k)
below zero f t k h = absurd (not-suc-le-zero h)
below (suc n) f t k h = go (dec_lt k n) (below n f (both_right (f n) (every n f) t) k)
  where
    last : ¬ (k < n) → n ≡ k
    last l = omega arith

    go : Dec (k < n) → (k < n → T (f k)) → T (f k)
    go (yes l) r = r l
    go (no l) r = subst (λ (m : ℕ). T (f m)) (last l) (both_left (f n) (every n f) t)

pub below2 : (n m : ℕ) (f : ℕ → ℕ → Bool) → T (every n (λ a. every m (f a))) → (a b : ℕ) → a < n → b < m → T (f a b)
below2 n m f t a b ha = below m (f a) (below n (λ a. every m (f a)) t a ha) b

-- two functions agree at two, three and four numbers, each below its bound
pub agree2 : (n m : ℕ) (f g : ℕ → ℕ → ℕ) → T (every n (λ a. every m (λ b. eqb (f a b) (g a b))))
    → (a b : ℕ) → a < n → b < m → f a b ≡ g a b
agree2 n m f g t a b ha hb = eqb→eq (f a b) (g a b) (below2 n m (λ a b. eqb (f a b) (g a b)) t a b ha hb)

pub agree3 : (n m l : ℕ) (f g : ℕ → ℕ → ℕ → ℕ) → T (every n (λ a. every m (λ b. every l (λ c. eqb (f a b c) (g a b c)))))
    → (a b c : ℕ) → a < n → b < m → c < l → f a b c ≡ g a b c
agree3 n m l f g t a b c ha =
    agree2 m l (f a) (g a) (below n (λ a. every m (λ b. every l (λ c. eqb (f a b c) (g a b c)))) t a ha) b c

pub agree4 : (n m l o : ℕ) (f g : ℕ → ℕ → ℕ → ℕ → ℕ)
    → T (every n (λ a. every m (λ b. every l (λ c. every o (λ d. eqb (f a b c d) (g a b c d))))))
    → (a b c d : ℕ) → a < n → b < m → c < l → d < o → f a b c d ≡ g a b c d
agree4 n m l o f g t a b c d ha =
    agree3 m l o (f a) (g a) (below n (λ a. every m (λ b. every l (λ c. every o (λ d. eqb (f a b c d) (g a b c d))))) t a ha) b c d
