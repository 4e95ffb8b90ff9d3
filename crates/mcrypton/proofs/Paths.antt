-- Any two path numbers give the same array after every round.
use mathlib.Core.Path.{◌≡◌, refl, sym, ap, ◌∙◌}
use mathlib.Core.Bool.{Bool, true, false}
use mathlib.Core.List.{List}
use Prim.Native.Nat.{ℕ, zero, suc}
use Rattle.octets.specs.Bytes.{if◌then◌otherwise◌}
use Rattle.rounds.specs.Array.{nibble_round}
use Rattle.rounds.specs.declared.Direction.{Direction}
use Rattle.rounds.proofs.Paths.{same_round}
use Rattle.mcrypton.specs.Cipher.{by_words, after_by, path_round, after, steps}

either : (t : Bool) {x y : List ℕ} → x ≡ y → (if t then x otherwise y) ≡ y
either true e = e
either false e = refl

pub any_path : (d : Direction) (p r : ℕ) (k a : List ℕ) → path_round d p r k a ≡ nibble_round d k a
any_path d p r k a = either (by_words p r) (same_round d k a)

pub same_after : (d : Direction) (p q : ℕ) (keys : ℕ → List ℕ) (b : List ℕ) (r : ℕ) → after d p keys b r ≡ after d q keys b r
unfolding after_by
same_after d p q keys b zero = refl
same_after d p q keys b (suc r) =
    any_path d p (suc r) (keys (suc r)) (after d p keys b r)
    ∙ ap (nibble_round d (keys (suc r))) (same_after d p q keys b r)
    ∙ sym (any_path d q (suc r) (keys (suc r)) (after d q keys b r))

pub same_steps : (d : Direction) (p q : ℕ) (keys : ℕ → List ℕ) (b : List ℕ) → steps d p keys b ≡ steps d q keys b
unfolding steps
same_steps d p q keys b = rw (same_after d p q keys b 12)
