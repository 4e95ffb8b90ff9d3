-- Laws of sums, and of numbers written in a base.
use mathlib.Core.Path.{◌≡◌, refl, sym, ap, ap₂, ◌∙◌, subst}
use Prim.Native.Nat.{ℕ, zero, suc, ◌+◌, ◌*◌, ◌-◌, ◌/◌, ◌%◌, ◌^◌, ◌<◌}
use native.Mathlib.Nat.{mod-one, one-le-pow, pow-zero, mod-eq_of_lt, pow-succ', add_comm, add-mul, mul_assoc, add-mul-div_right, add-mul-mod_self_right, div-div-eq-div-mul, not-suc-le-zero}
use native.Mathlib.Omega.{arith}
use native.Mathlib.Decide.{dec_lt}
use lib.Arith.{mod-mul, digits_lt, digits_div}
use lib.Bits.{bit_xor, xor_shr, xor_mod}
use lib.Dec.{lit<}
use lib.Pow.{pow-add}
use Rattle.present_rounds.specs.Digits.{sum, bit, nibble}

-- ---- sums

pub sum_ext : (n : ℕ) {f g : ℕ → ℕ} → ((i : ℕ) → i < n → f i ≡ g i) → sum n f ≡ sum n g
unfolding sum
sum_ext zero e = refl
sum_ext (suc n) e = ap₂ (λ (x y : ℕ). x + y) (sum_ext n (λ i l. e i (omega arith))) (e n (omega arith))

pub sum_add : (a b : ℕ) (f : ℕ → ℕ) → sum (a + b) f ≡ sum a f + sum b (λ i. f (a + i))
unfolding sum
sum_add a zero f = let q : a + 0 ≡ a = omega arith in rw q (omega arith)
sum_add a (suc b) f =
    let q : a + suc b ≡ suc (a + b) = omega arith in
    ap (λ (n : ℕ). sum n f) q ∙ omega (arith, sum_add a b f)

-- a sum of m times k in m parts of k
pub sum_parts : (m k : ℕ) (f : ℕ → ℕ) → sum (m * k) f ≡ sum m (λ j. sum k (λ b. f (j * k + b)))
unfolding sum
sum_parts zero k f = let q : 0 * k ≡ 0 = omega arith in ap (λ (n : ℕ). sum n f) q
sum_parts (suc m) k f =
    let q : suc m * k ≡ m * k + k = omega arith in
    ap (λ (n : ℕ). sum n f) q
    ∙ sum_add (m * k) k f
    ∙ ap (λ (x : ℕ). x + sum k (λ b. f (m * k + b))) (sum_parts m k f)

sum_zero : (k : ℕ) → 0 ≡ sum k (λ i. 0)
unfolding sum
sum_zero zero = refl
sum_zero (suc k) = omega (arith, sum_zero k)

sum_plus : (k : ℕ) (f g : ℕ → ℕ) → sum k f + sum k g ≡ sum k (λ i. f i + g i)
unfolding sum
sum_plus zero f g = refl
sum_plus (suc k) f g = omega (arith, sum_plus k f g)

pub sum_swap : (m k : ℕ) (f : ℕ → ℕ → ℕ) → sum m (λ j. sum k (λ b. f j b)) ≡ sum k (λ b. sum m (λ j. f j b))
unfolding sum
sum_swap zero k f = sum_zero k
sum_swap (suc m) k f = ap (λ (x : ℕ). x + sum k (f m)) (sum_swap m k f) ∙ sum_plus k (λ b. sum m (λ j. f j b)) (f m)

pub sum_scale : (n : ℕ) (f : ℕ → ℕ) (c : ℕ) → sum n f * c ≡ sum n (λ i. f i * c)
unfolding sum
sum_scale zero f c = omega arith
sum_scale (suc n) f c = add-mul (sum n f) (f n) c ∙ ap (λ (x : ℕ). x + f n * c) (sum_scale n f c)

-- ---- a number in base c

module _ (c : ℕ) (pos : 0 < c) where
  pow_pos : (n : ℕ) → 0 < c ^ n
  pow_pos n = one-le-pow n c pos

  pub digits_sum_lt : (n : ℕ) (f : ℕ → ℕ) → ((i : ℕ) → f i < c) → sum n (λ i. f i * c ^ i) < c ^ n
  unfolding sum
  digits_sum_lt zero f h = pow_pos 0
  digits_sum_lt (suc n) f h =
      subst (λ (x : ℕ). sum n (λ i. f i * c ^ i) + f n * c ^ n < x) (sym (pow-succ' c n))
      (subst (λ (x : ℕ). x < c * c ^ n) (add_comm (f n * c ^ n) (sum n (λ i. f i * c ^ i))) (digits_lt (h n) (digits_sum_lt n f h)))

  -- the digits of a number below c ^ n, put together again
  sum_digits_mod : (n x : ℕ) → sum n (λ i. x / c ^ i % c * c ^ i) ≡ x % c ^ n
  unfolding sum
  sum_digits_mod zero x = sym (ap (λ (m : ℕ). x % m) (pow-zero c) ∙ mod-one x)
  sum_digits_mod (suc n) x =
      ap (λ (y : ℕ). y + x / c ^ n % c * c ^ n) (sum_digits_mod n x)
      ∙ add_comm (x % c ^ n) (x / c ^ n % c * c ^ n)
      ∙ sym (ap (λ (m : ℕ). x % m) (pow-succ' c n) ∙ mod-mul x pos (pow_pos n))

  pub sum_digits : (n x : ℕ) → x < c ^ n → sum n (λ i. x / c ^ i % c * c ^ i) ≡ x
  sum_digits n x h = sum_digits_mod n x ∙ mod-eq_of_lt h

  -- digit j of a sum of digits
  pub digit_sum : (n : ℕ) (f : ℕ → ℕ) → ((i : ℕ) → f i < c) → (j : ℕ) → j < n → sum n (λ i. f i * c ^ i) / c ^ j % c ≡ f j
  unfolding sum
  digit_sum zero f h j l = absurd (not-suc-le-zero l)
  digit_sum (suc n) f h j l = go (dec_lt j n) (digit_sum n f h j)
    where
      last : ¬ (j < n) → j ≡ n
      last g = omega arith

      split : j < n → n ≡ (n - suc j) + suc j
      split g = omega arith

      -- the last digit stands c times c ^ j higher, or more
      higher : j < n → f n * c ^ n ≡ f n * c ^ (n - suc j) * c * c ^ j
      higher g =
          ap (λ (m : ℕ). f n * c ^ m) (split g)
          ∙ ap (λ (x : ℕ). f n * x) (pow-add c (n - suc j) (suc j) ∙ ap (λ (x : ℕ). c ^ (n - suc j) * x) (pow-succ' c j))
          ∙ regroup (f n) (c ^ (n - suc j)) c (c ^ j)
        where
          regroup : (p q r s : ℕ) → p * (q * (r * s)) ≡ p * q * r * s
          regroup p q r s = sym (mul_assoc (p * q) r s ∙ mul_assoc p q (r * s))

      go : Dec (j < n) → (j < n → sum n (λ i. f i * c ^ i) / c ^ j % c ≡ f j) → (sum n (λ i. f i * c ^ i) + f n * c ^ n) / c ^ j % c ≡ f j
      go (yes g) r =
          ap (λ (x : ℕ). (sum n (λ i. f i * c ^ i) + x) / c ^ j % c) (higher g)
          ∙ ap (λ (x : ℕ). x % c) (add-mul-div_right (sum n (λ i. f i * c ^ i)) (f n * c ^ (n - suc j) * c) (pow_pos j))
          ∙ add-mul-mod_self_right (sum n (λ i. f i * c ^ i) / c ^ j) (f n * c ^ (n - suc j)) c
          ∙ r g
      go (no g) r =
          ap (λ (m : ℕ). (sum n (λ i. f i * c ^ i) + f n * c ^ n) / c ^ m % c) (last g)
          ∙ ap (λ (x : ℕ). x / c ^ n % c) (add_comm (sum n (λ i. f i * c ^ i)) (f n * c ^ n))
          ∙ ap (λ (x : ℕ). x % c) (digits_div (f n) (digits_sum_lt n f h))
          ∙ mod-eq_of_lt (h n)
          ∙ ap f (sym (last g))

-- ---- bits

pub bit_lt : (x i : ℕ) → bit x i < 2
bit_lt x i = omega arith

pub nibble_lt : (x i : ℕ) → nibble x i < 16
nibble_lt x i = omega arith

pub bits_sum : (n x : ℕ) → x < 2 ^ n → sum n (λ i. bit x i * 2 ^ i) ≡ x
bits_sum = sum_digits 2 (lit< tt)

pub nibbles_sum : (n x : ℕ) → x < 16 ^ n → sum n (λ i. nibble x i * 16 ^ i) ≡ x
nibbles_sum = sum_digits 16 (lit< tt)

-- numbers with the same bits are the same
pub bits_ext : (n x y : ℕ) → x < 2 ^ n → y < 2 ^ n → ((i : ℕ) → i < n → bit x i ≡ bit y i) → x ≡ y
bits_ext n x y h g e = sym (bits_sum n x h) ∙ sum_ext n (λ i l. ap (λ (b : ℕ). b * 2 ^ i) (e i l)) ∙ bits_sum n y g

pub bit_xor_lem : (x y i : ℕ) → bit (bit_xor x y) i ≡ bit_xor (bit x i) (bit y i)
bit_xor_lem x y i = ap (λ (z : ℕ). z % 2) (xor_shr x y i) ∙ xor_mod (x / 2 ^ i) (y / 2 ^ i) 1

sixteens : (j : ℕ) → 2 ^ (j * 4) ≡ 16 ^ j
sixteens zero = refl
sixteens (suc j) =
    let q : suc j * 4 ≡ 4 + j * 4 = omega arith in
    ap (λ (m : ℕ). 2 ^ m) q ∙ pow-add 2 4 (j * 4) ∙ ap (λ (x : ℕ). 16 * x) (sixteens j) ∙ sym (pow-succ' 16 j)

bit_of_nibble : (y b : ℕ) → b < 4 → y / 2 ^ b % 2 ≡ y % 16 / 2 ^ b % 2
bit_of_nibble y zero h = omega arith
bit_of_nibble y (suc zero) h = omega arith
bit_of_nibble y (suc (suc zero)) h = omega arith
bit_of_nibble y (suc (suc (suc zero))) h = omega arith
bit_of_nibble y (suc (suc (suc (suc b)))) h = absurd (no b h)
  where
    no : (b : ℕ) → suc (suc (suc (suc b))) < 4 → ⊥
    no b h = omega arith

-- bit b of nibble j
pub bit_nibble : (x j b : ℕ) → b < 4 → bit x (j * 4 + b) ≡ bit (nibble x j) b
bit_nibble x j b h =
    ap (λ (m : ℕ). x / m % 2) (pow-add 2 (j * 4) b ∙ ap (λ (m : ℕ). m * 2 ^ b) (sixteens j))
    ∙ ap (λ (y : ℕ). y % 2) (sym (div-div-eq-div-mul x (16 ^ j) (2 ^ b)))
    ∙ bit_of_nibble (x / 16 ^ j) b h
