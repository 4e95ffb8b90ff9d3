-- Laws of exclusive or, of the bitwise and, and of the bitwise or.
use mathlib.Core.Path.{◌≡◌, refl, sym, ap, ap₂, ◌∙◌}
use mathlib.Core.Bool.{◌&&◌}
use Prim.Native.Nat.{ℕ, ◌+◌, ◌*◌, ◌/◌, ◌%◌, ◌<◌}
use native.Mathlib.Nat.{div-add-mod'}
use native.Mathlib.Omega.{arith}
use native.Mathlib.Decide.{ℕ_discrete}
use borrow.Author.Tests.{eq-eqb, ne_eqb}
use lib.Arith.{bin_ind}
use lib.Bits.{bit_and, bit_or, bit_xor, xor_shr, xor_mod, and_shr, and_mod, xor_comm, xor_self, xor_zero_r, or_add_and, and_le_l, and_le_r}
use lib.Dec.{T, eqb}
use Rattle.octets.proofs.Test.{every, agree3}

-- two operations on three numbers that go digit by digit are equal if they are at digits
module _ (f g : ℕ → ℕ → ℕ → ℕ)
    (base : (b c : ℕ) → f 0 b c ≡ g 0 b c)
    (f-half : (a b c : ℕ) → f a b c / 2 ≡ f (a / 2) (b / 2) (c / 2))
    (f-odd : (a b c : ℕ) → f a b c % 2 ≡ f (a % 2) (b % 2) (c % 2))
    (g-half : (a b c : ℕ) → g a b c / 2 ≡ g (a / 2) (b / 2) (c / 2))
    (g-odd : (a b c : ℕ) → g a b c % 2 ≡ g (a % 2) (b % 2) (c % 2))
    (test : T (every 2 (λ a. every 2 (λ b. every 2 (λ c. eqb (f a b c) (g a b c)))))) where
  odd_lt : (n : ℕ) → n % 2 < 2
  odd_lt n = omega arith

  digits : (a b c : ℕ) → f (a % 2) (b % 2) (c % 2) ≡ g (a % 2) (b % 2) (c % 2)
  digits a b c = agree3 2 2 2 f g test (a % 2) (b % 2) (c % 2) (odd_lt a) (odd_lt b) (odd_lt c)

  pub by_digits : (a b c : ℕ) → f a b c ≡ g a b c
  by_digits =
      bin_ind (λ (n : ℕ). (b c : ℕ) → f n b c ≡ g n b c) base
      (λ a ih b c.
      sym (div-add-mod' (f a b c) 2)
      ∙ ap₂ (λ (x y : ℕ). x * 2 + y) (f-half a b c ∙ ih (b / 2) (c / 2) ∙ sym (g-half a b c)) (f-odd a b c ∙ digits a b c ∙ sym (g-odd a b c))
      ∙ div-add-mod' (g a b c) 2)

pub xor_assoc : (a b c : ℕ) → bit_xor (bit_xor a b) c ≡ bit_xor a (bit_xor b c)
xor_assoc =
    by_digits (λ a b c. bit_xor (bit_xor a b) c) (λ a b c. bit_xor a (bit_xor b c)) (λ b c. refl)
    (λ a b c. xor_shr (bit_xor a b) c 1 ∙ ap (λ (x : ℕ). bit_xor x (c / 2)) (xor_shr a b 1))
    (λ a b c. xor_mod (bit_xor a b) c 1 ∙ ap (λ (x : ℕ). bit_xor x (c % 2)) (xor_mod a b 1))
    (λ a b c. xor_shr a (bit_xor b c) 1 ∙ ap (λ (x : ℕ). bit_xor (a / 2) x) (xor_shr b c 1))
    (λ a b c. xor_mod a (bit_xor b c) 1 ∙ ap (λ (x : ℕ). bit_xor (a % 2) x) (xor_mod b c 1))
    tt

pub and_xor : (a b m : ℕ) → bit_and (bit_xor a b) m ≡ bit_xor (bit_and a m) (bit_and b m)
and_xor =
    by_digits (λ a b m. bit_and (bit_xor a b) m) (λ a b m. bit_xor (bit_and a m) (bit_and b m)) (λ b m. refl)
    (λ a b m. and_shr (bit_xor a b) m 1 ∙ ap (λ (x : ℕ). bit_and x (m / 2)) (xor_shr a b 1))
    (λ a b m. and_mod (bit_xor a b) m 1 ∙ ap (λ (x : ℕ). bit_and x (m % 2)) (xor_mod a b 1))
    (λ a b m. xor_shr (bit_and a m) (bit_and b m) 1 ∙ ap₂ bit_xor (and_shr a m 1) (and_shr b m 1))
    (λ a b m. xor_mod (bit_and a m) (bit_and b m) 1 ∙ ap₂ bit_xor (and_mod a m 1) (and_mod b m 1))
    tt

-- a number added twice is gone
pub xor_cancel : (a b : ℕ) → bit_xor (bit_xor a b) b ≡ a
xor_cancel a b = xor_assoc a b b ∙ ap (bit_xor a) (xor_self b) ∙ xor_zero_r a

-- the two in the middle change places
pub xor_middle : (a b c d : ℕ) → bit_xor (bit_xor a b) (bit_xor c d) ≡ bit_xor (bit_xor a c) (bit_xor b d)
xor_middle a b c d =
    xor_assoc a b (bit_xor c d)
    ∙ ap (bit_xor a) (sym (xor_assoc b c d) ∙ ap (λ (x : ℕ). bit_xor x d) (xor_comm b c) ∙ xor_assoc c b d)
    ∙ sym (xor_assoc a c (bit_xor b d))

-- numbers whose exclusive or is zero are equal
pub xor_zero_is : (a b : ℕ) → bit_xor a b ≡ 0 → a ≡ b
xor_zero_is a b e = sym (xor_cancel a b) ∙ ap (λ (x : ℕ). bit_xor x b) e

-- a bitwise or is zero where both numbers are
pub or_zero_left : (a b : ℕ) → bit_or a b ≡ 0 → a ≡ 0
or_zero_left a b e = omega (arith, or_add_and a b, and_le_r a b)

pub or_zero_right : (a b : ℕ) → bit_or a b ≡ 0 → b ≡ 0
or_zero_right a b e = omega (arith, or_add_and a b, and_le_l a b)

pub eqb_or : (a b : ℕ) → eqb (bit_or a b) 0 ≡ eqb a 0 && eqb b 0
eqb_or a b =
    elim (ℕ_discrete a 0) [
      | yes p ↦ rw p
      | no p ↦ rw (ne_eqb a 0 p, ne_eqb (bit_or a b) 0 (λ e. p (or_zero_left a b e)))
    ]

pub eqb_xor : (a b : ℕ) → eqb (bit_xor a b) 0 ≡ eqb a b
eqb_xor a b =
    elim (ℕ_discrete a b) [
      | yes p ↦ rw (eq-eqb a b p, eq-eqb (bit_xor a b) 0 (ap (λ (x : ℕ). bit_xor x b) p ∙ xor_self b))
      | no p ↦ rw (ne_eqb a b p, ne_eqb (bit_xor a b) 0 (λ e. p (xor_zero_is a b e)))
    ]
