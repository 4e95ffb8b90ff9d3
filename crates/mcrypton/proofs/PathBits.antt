-- What each bit of a path number chooses, for any two meanings of a round.
use mathlib.Core.Path.{◌≡◌, refl, ap, ap₂, ◌∙◌}
use mathlib.Core.Bool.{Bool}
use mathlib.Core.List.{List}
use Prim.Native.Nat.{ℕ, zero, suc, ◌+◌, ◌-◌, ◌/◌, ◌%◌, ◌^◌, ◌≤◌, ◌<◌}
use native.Mathlib.Omega.{arith}
use lib.Dec.{eqb}
use lib.Pow.{field, mod-mod-pow}
use Rattle.octets.specs.Bytes.{if◌then◌otherwise◌}
use Rattle.mcrypton.specs.Claims.{PathBits}
use Rattle.mcrypton.specs.Cipher.{Round, by_words, after_by}

-- only the twelve low bits choose
low_bits : (p r : ℕ) → 0 < r → r ≤ 12 → by_words (p % 4096) r ≡ by_words p r
unfolding by_words
low_bits p r h l =
    ap (λ (x : ℕ). eqb x 1)
    (ap (λ (m : ℕ). p % 2 ^ m / 2 ^ (r - 1) % 2) (width r h l)
    ∙ ap (λ (x : ℕ). x % 2) (field p (12 - r + 1) (r - 1))
    ∙ mod-mod-pow (p / 2 ^ (r - 1)) (12 - r) 1)
  where
    width : (r : ℕ) → 0 < r → r ≤ 12 → 12 ≡ 12 - r + 1 + (r - 1)
    width r h l = omega arith

module _ (W N : Round) (keys : ℕ → List ℕ) (b : List ℕ) where
  low_after : (p r : ℕ) → r ≤ 12 → after_by W N (p % 4096) keys b r ≡ after_by W N p keys b r
  unfolding after_by
  low_after p zero l = refl
  low_after p (suc r) l =
      ap₂ (λ (t : Bool) (a : List ℕ). if t then W (keys (suc r)) a otherwise N (keys (suc r)) a) (low_bits p (suc r) (omega arith) l) (low_after p r (omega arith))

  takes : (p r : ℕ) {x : ℕ} → p / 2 ^ r % 2 ≡ x
      → after_by W N p keys b (suc r) ≡ (if eqb x 1 then W (keys (suc r)) (after_by W N p keys b r) otherwise N (keys (suc r)) (after_by W N p keys b r))
  unfolding after_by by_words
  takes p r e =
      ap (λ (x : ℕ). if eqb x 1 then W (keys (suc r)) (after_by W N p keys b r) otherwise N (keys (suc r)) (after_by W N p keys b r))
      (ap (λ (m : ℕ). p / 2 ^ m % 2) (omega arith) ∙ e)

  pub path_bits : PathBits W N keys b
  unfolding after_by by_words
  path_bits =
      record {
        first = λ p. refl;
        word = λ p r e. takes p r e;
        nibble = λ p r e. takes p r e;
        mixed = refl;
        top = λ p. low_after p 12 (omega arith);
      }
