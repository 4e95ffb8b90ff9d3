-- A round on each of many arrays.
use mathlib.Core.Path.{◌≡◌, refl, sym, ap, ◌∙◌}
use mathlib.Core.List.{List, map, map-map}
use Prim.Native.Nat.{ℕ, ◌+◌, ◌-◌, ◌≤◌, ◌<◌}
use Rattle.octets.proofs.Each.{map_same}
use Rattle.rounds.specs.Array.{φ, σ, word_round}
use Rattle.rounds.specs.declared.Direction.{Direction}
use Rattle.schedule.specs.Schedule.{times}
use Rattle.schedule.specs.declared.Register.{Register}
use Rattle.mcrypton.specs.Cipher.{steps}
use Rattle.mcrypton.proofs.Remaining.{by_words_lem, remaining, one_round, ended, begun}

-- one walk of the register for many arrays, in either direction
module _ (d : Direction) (p : ℕ) (step : Register → Register) (key : Register → List ℕ) where
  pub each_round : (r : ℕ) (v : Register) {v' : Register} {k : List ℕ} (a : List (List ℕ)) {a' : List (List ℕ)} → r < 12 → v' ≡ step v → k ≡ key v' → a' ≡ map (word_round d k) a
      → map (remaining d p step key (12 - r) r v) a ≡ map (remaining d p step key (12 - (r + 1)) (r + 1) v') a'
  each_round r v {v'} {k} a l e f g =
      map_same _ _ (λ x. one_round d p step key r v x l e f (by_words_lem d p (r + 1) k x refl)) a
      ∙ sym (map-map (remaining d p step key (12 - (r + 1)) (r + 1) v') (word_round d k) a)
      ∙ ap (map (remaining d p step key (12 - (r + 1)) (r + 1) v')) (sym g)

  -- after the rounds, where a₀ is the sum of each block of b and round key 0
  pub each_ended : (r : ℕ) (u v : Register) (b a : List (List ℕ)) {k : List ℕ} {a₀ z : List (List ℕ)} → 12 ≤ r → map (remaining d p step key 12 0 u) a₀ ≡ map (remaining d p step key (12 - r) r v) a
      → k ≡ key u → a₀ ≡ map (σ k) b → z ≡ map φ a → z ≡ map (steps d p (λ m. key (times m step u))) b
  each_ended r u v b a {k} l h f g e =
      e
      ∙ sym (h ∙ map_same _ _ (λ x. ended d p step key r v x l) a)
      ∙ ap (map (remaining d p step key 12 0 u)) g
      ∙ map-map (remaining d p step key 12 0 u) (σ k) b
      ∙ map_same _ _ (λ x. begun d p step key u x f refl) b
