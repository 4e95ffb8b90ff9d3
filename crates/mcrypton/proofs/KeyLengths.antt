-- The test of a key's length says which lengths a key has.
use mathlib.Core.Path.{◌≡◌}
use mathlib.Core.Bool.{true, false}
use borrow.Author.Tests.{ne_eqb}
use mathlib.Core.Logic.{◌⊎◌, inl, inr}
use mathlib.Core.List.{[], ◌∷◌}
use Prim.Native.Nat.{ℕ}
use Rattle.octets.specs.Clauses.{OneOf}
use Rattle.octets.proofs.Clauses.{Reflects, reflects_three}
use Rattle.mcrypton.specs.Bytes.{key_length}

pub reflects_length : (n : ℕ) → Reflects (key_length n) (OneOf (8 ∷ 12 ∷ 16 ∷ []) n)
unfolding key_length
reflects_length n = reflects_three n 8 12 16

pub is_key : (n : ℕ) → (n ≡ 8) ⊎ ((n ≡ 12) ⊎ (n ≡ 16)) → true ≡ key_length n
unfolding key_length
is_key n (inl e) = rw e
is_key n (inr (inl e)) = rw e
is_key n (inr (inr e)) = rw e

pub no_key : (n : ℕ) → ((n ≡ 8) ⊎ ((n ≡ 12) ⊎ (n ≡ 16)) → ⊥) → false ≡ key_length n
unfolding key_length
no_key n h = simp (ne_eqb n 8 (λ e. h (inl e)), ne_eqb n 12 (λ e. h (inr (inl e))), ne_eqb n 16 (λ e. h (inr (inr e))))
