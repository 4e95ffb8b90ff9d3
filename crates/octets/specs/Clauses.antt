-- What a call answers, said in propositions and not in tests.
use Rattle.std.specs.Prelude.{ℕ, ◌≡◌, ◌↔◌, ◌⊎◌, List, [], ◌∷◌}

-- a number, and the proposition on which it is given
infix 5 ◌when◌
pub data Clause : Type 1 where
  ◌when◌ : ℕ → Type 0 → Clause

-- n is the answer by these clauses: the number of the first that holds, where no earlier one does, or 0 where none holds
unfoldable pub Answers : List Clause → ℕ → Type 0
Answers [] n = n ≡ 0
Answers ((m when P) ∷ clauses) n = (P × (n ≡ m)) ⊎ ((P → ⊥) × Answers clauses n)

-- a call's number is n exactly if n is the answer by the clauses
pub record Exactly (number : ℕ) (clauses : List Clause) : Type 0 where
  pub answers : (n : ℕ) → (number ≡ n) ↔ Answers clauses n

-- n is one of these
unfoldable pub OneOf : List ℕ → ℕ → Type 0
OneOf [] n = ⊥
OneOf (m ∷ []) n = n ≡ m
OneOf (m ∷ (l ∷ ms)) n = (n ≡ m) ⊎ OneOf (l ∷ ms) n

-- P at each number of a list
pub data Each (P : ℕ → Type 0) : List ℕ → Type 0 where
  none : Each P []
  and : {n : ℕ} {ns : List ℕ} → P n → Each P ns → Each P (n ∷ ns)
