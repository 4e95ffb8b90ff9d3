-- What remains to be done to an array in a walk of the register, for any step of it and any key made from it: in either direction.
use mathlib.Core.Path.{◌≡◌, refl, sym, ap, ◌∙◌, subst}
use mathlib.Core.List.{List}
use Prim.Native.Nat.{ℕ, zero, suc, ◌+◌, ◌-◌, ◌≤◌, ◌<◌}
use native.Mathlib.Numerals.{add-one}
use native.Mathlib.Omega.{arith}
use Rattle.rounds.specs.Array.{φ, σ, word_round}
use Rattle.rounds.specs.declared.Direction.{Direction}
use Rattle.rounds.specs.declared.Direction.TheVariants.{Encrypt, Decrypt}
use Rattle.rounds.proofs.Paths.{same_round}
use Rattle.schedule.specs.Schedule.{forward, backward, start, back_start, times}
use Rattle.schedule.specs.declared.Register.{Register}
use Rattle.mcrypton.specs.Cipher.{path_round, after_by, after, steps}
use Rattle.mcrypton.specs.Registers.{encrypt_from, decrypt_from}
use Rattle.mcrypton.specs.Walks.{step, walk_key, round_number, Reached, begun_by, walked, TwoRounds}
use Rattle.mcrypton.proofs.Paths.{any_path, same_steps}

-- a round by words is a round by any path
pub by_words_lem : (d : Direction) (p r : ℕ) (k a : List ℕ) {a' : List ℕ} → a' ≡ word_round d k a → a' ≡ path_round d p r k a
by_words_lem d p r k a e = e ∙ same_round d k a ∙ sym (any_path d p r k a)

-- r rounds are done and n remain: a is the array, and v the register of the last round done
unfoldable pub remaining : Direction → ℕ → (Register → Register) → (Register → List ℕ) → ℕ → ℕ → Register → List ℕ → List ℕ
remaining d p step key zero r v a = φ a
remaining d p step key (suc n) r v a = remaining d p step key n (suc r) (step v) (path_round d p (suc r) (key (step v)) a)

module _ (d : Direction) (p : ℕ) (step : Register → Register) (key : Register → List ℕ) where
  -- one turn of a loop that does a round
  pub one_round : (r : ℕ) (v : Register) {v' : Register} {k : List ℕ} (a : List ℕ) {a' : List ℕ} → r < 12 → v' ≡ step v → k ≡ key v' → a' ≡ path_round d p (r + 1) k a
      → remaining d p step key (12 - r) r v a ≡ remaining d p step key (12 - (r + 1)) (r + 1) v' a'
  unfolding remaining
  one_round r v a l e f g = rw (g, f, e, add-one, left)
    where
      left : 12 - r ≡ suc (12 - suc r)
      left = omega arith

  -- after such a loop
  pub ended : (r : ℕ) (v : Register) (a : List ℕ) → 12 ≤ r → remaining d p step key (12 - r) r v a ≡ φ a
  unfolding remaining
  ended r v a l = rw none
    where
      none : 12 - r ≡ 0
      none = omega arith

  -- two steps of the register and two rounds by words
  two_more : (n r : ℕ) (v : Register) {v₁ v₂ : Register} (a : List ℕ) {k₁ k₂ a₁ a₂ : List ℕ} → v₁ ≡ step v → v₂ ≡ step v₁ → k₁ ≡ key v₁ → a₁ ≡ word_round d k₁ a → k₂ ≡ key v₂ → a₂ ≡ word_round d k₂ a₁
      → remaining d p step key (suc (suc n)) r v a ≡ remaining d p step key n (suc (suc r)) v₂ a₂
  unfolding remaining
  two_more n r v a {k₁} {k₂} {a₁} e₁ e₂ f₁ g₁ f₂ g₂ = rw (by_words_lem d p (suc (suc r)) k₂ a₁ g₂, f₂, by_words_lem d p (suc r) k₁ a g₁, f₁, e₂, e₁)

  module _ (u : Register) (b : List ℕ) where
    done : ℕ → List ℕ
    done r = after d p (λ m. key (times m step u)) b r

    from : (n r m : ℕ) → n + r ≡ m → remaining d p step key n r (times r step u) (done r) ≡ φ (done m)
    unfolding remaining after_by times done
    from zero r m e = let f : r ≡ m = omega arith in rw f
    from (suc n) r m e = from n (suc r) m (omega arith)

    -- all twelve rounds, where a is the sum of the block and round key 0
    pub begun : {k a : List ℕ} → k ≡ key u → a ≡ σ k b → remaining d p step key 12 0 u a ≡ steps d p (λ m. key (times m step u)) b
    unfolding steps after_by times done
    begun f g = rw (g, f) (from 12 0 12 refl)

-- ---- by a direction

pub begun_walk : (d : Direction) (p : ℕ) (u : Register) (b : List ℕ) {k a : List ℕ} → k ≡ walk_key d u → a ≡ σ k b → remaining d p (step d) (walk_key d) 12 0 u a ≡ walked d p u b
unfolding walked
begun_walk d p u b = begun d p (step d) (walk_key d) u b

pub walked_encrypt : (p : ℕ) (u : Register) (b : List ℕ) → walked Encrypt p u b ≡ encrypt_from p u b
unfolding walked encrypt_from
walked_encrypt p u b = refl

pub walked_decrypt : (p : ℕ) (u : Register) (b : List ℕ) → walked Decrypt p u b ≡ decrypt_from p u b
unfolding walked decrypt_from
walked_decrypt p u b = refl

pub any_walk : (d : Direction) (p q : ℕ) (u : Register) (b : List ℕ) → walked d p u b ≡ walked d q u b
unfolding walked
any_walk d p q u b = same_steps d p q _ b

-- two rounds by words
pub two_rounds : (d : Direction) (n r : ℕ) (v : Register) {v₂ : Register} (a : List ℕ) {a₂ : List ℕ} → TwoRounds d v a v₂ a₂
    → remaining d 0 (step d) (walk_key d) (suc (suc n)) r v a ≡ remaining d 0 (step d) (walk_key d) n (suc (suc r)) v₂ a₂
two_rounds d n r v a h = two_more d 0 (step d) (walk_key d) n r v a refl h.steps refl refl refl h.rounds

-- a register with its own round said another way
pub with_round : (u : Register) {n : ℕ} → u.round ≡ n → record { words = u.words; count = u.count; round = n } ≡ u
with_round u e = rw (← e)

pub number_lt : (d : Direction) (r : ℕ) → r < 13 → round_number d r < 13
number_lt Encrypt r h = h
number_lt Decrypt r h = omega arith

pub begins : (d : Direction) (k : List ℕ) {u : Register} → u ≡ begun_by d k → Reached d 0 u
unfolding start back_start
begins Encrypt k e = record { known = ap (λ (x : Register). x.round) e; inside = omega arith }
begins Decrypt k e = record { known = ap (λ (x : Register). x.round) e; inside = omega arith }

-- the two registers that a walk begins with
pub from_first : (u : Register) → u.round ≡ 0 → Reached Encrypt 0 u
from_first u e = record { known = e; inside = omega arith }

pub from_last : (u : Register) → u.round ≡ 12 → Reached Decrypt 0 u
from_last u e = record { known = e; inside = omega arith }

pub reached_same : {d : Direction} {r s : ℕ} {v : Register} → Reached d r v → r ≡ s → Reached d s v
reached_same {d} {v = v} h e = subst (λ (n : ℕ). Reached d n v) e h

module _ (d : Direction) (r : ℕ) (v : Register) (h : Reached d r v) where
  pub may_forward : d ≡ Encrypt → r < 12 → v.round < 12
  may_forward e l = let k : v.round ≡ round_number Encrypt r = h.known ∙ ap (λ (x : Direction). round_number x r) e in omega (arith, k, l)

  pub may_backward : d ≡ Decrypt → r < 12 → 0 < v.round
  may_backward e l = let k : v.round ≡ round_number Decrypt r = h.known ∙ ap (λ (x : Direction). round_number x r) e in omega (arith, k, l)

-- a step from a register leads to the next
pub stepped : (d : Direction) (r : ℕ) (v : Register) {v' : Register} → Reached d r v → r < 12 → v' ≡ step d v → Reached d (r + 1) v'
unfolding forward backward
stepped Encrypt r v h l e = record { known = ap (λ (x : Register). x.round) e ∙ ap (λ (n : ℕ). n + 1) h.known; inside = omega arith }
stepped Decrypt r v h l e = record { known = ap (λ (x : Register). x.round) e ∙ ap (λ (n : ℕ). n - 1) h.known ∙ omega arith; inside = omega arith }
