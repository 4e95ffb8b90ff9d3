-- The bytes by which inputs are made: n of them, the first is x and each is step more than the one before, modulo 256.
use Rattle.std.specs.Prelude.{ℕ, zero, suc, ◌+◌, ◌%◌, List, [], ◌∷◌}

unfoldable pub patterned : ℕ → ℕ → ℕ → List ℕ
patterned step x zero = []
patterned step x (suc n) = x % 256 ∷ patterned step (x % 256 + step) n
