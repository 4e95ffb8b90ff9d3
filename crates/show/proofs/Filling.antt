-- A pattern of which i bytes are in place.
use mathlib.Core.Path.{◌≡◌, refl, sym, ◌∙◌}
use mathlib.Core.List.{List, ◌++◌, append_assoc, append-nil}
use Prim.Native.Nat.{ℕ, zero, suc, ◌+◌, ◌-◌, ◌%◌, ◌≤◌, ◌<◌}
use native.Mathlib.Nat.{sub-zero}
use native.Mathlib.Numerals.{add-one}
use native.Mathlib.Omega.{arith}
use lib.ListN.{length, take, set}
use lib.Seq.{take-suc-set, take_all}
use Rattle.show.specs.Pattern.{patterned}

-- only the low byte of the first number counts
patterned_low : (step x n : ℕ) → patterned step (x % 256) n ≡ patterned step x n
unfolding patterned
patterned_low step x zero = refl
patterned_low step x (suc n) = let e : x % 256 % 256 ≡ x % 256 = omega arith in rw e

module _ (step x₀ n : ℕ) where
  pub Filled : ℕ → List ℕ → ℕ → Type 0
  Filled i out x = patterned step x₀ n ≡ take i out ++ patterned step x (n - i)

  pub fill_none : (out : List ℕ) → Filled 0 out x₀
  unfolding Filled
  fill_none out = rw sub-zero

  pub fill_more : (i : ℕ) (out : List ℕ) (x y : ℕ) → Filled i out x → i < n → length out ≡ n → x < 256 → y ≡ (x + step) % 256 → Filled (i + 1) (set out i x) y
  unfolding Filled patterned
  fill_more i out x y f l h b e =
      let m : n - i ≡ suc (n - (i + 1)) = omega arith in
      let k : i < length out = omega arith in
      let low : x % 256 ≡ x = omega arith in
      f ∙ rw (m, add-one, take-suc-set out i x k, append_assoc, e, low, patterned_low step (x + step) (n - suc i))

  pub fill_end : (i : ℕ) (out : List ℕ) (x : ℕ) → Filled i out x → n ≤ i → length out ≡ n → out ≡ patterned step x₀ n
  unfolding Filled patterned
  fill_end i out x f g h =
      let z : n - i ≡ 0 = omega arith in
      sym (f ∙ rw (z, append-nil) (take_all i out (omega arith)))
