-- The blocks of a text, for the contracts of inner functions and of the crate above.
use Rattle.std.specs.Prelude.{ℕ, zero, suc, List, [], ◌∷◌, take, drop}

-- the first n blocks of s
unfoldable pub blocks : ℕ → List ℕ → List (List ℕ)
blocks zero s = []
blocks (suc n) s = take 8 s ∷ blocks n (drop 8 s)
