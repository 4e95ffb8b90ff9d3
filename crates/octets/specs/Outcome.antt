-- What a call answers and leaves behind, and the order of its tests as a table.
use Rattle.std.specs.Prelude.{ℕ, Bool, List, [], ◌∷◌}
use Rattle.octets.specs.Bytes.{if◌then◌otherwise◌}

-- the paper's number (0 is accepted), the paper's length, and the lent bytes after the call
pub record Outcome : Type 0 where
  pub number : ℕ
  pub len : ℕ
  pub bytes : List ℕ

-- a row of a table of tests: where the test applies, the call is refused with this answer
infixl 5 ◌gives◌
pub data Row (A : Type 0) : Type 0 where
  ◌gives◌ : Bool → A → Row A

-- the tests run in order, and the first that applies is given; where none applies the call is accepted
unfoldable pub decided : {A B : Type 0} → List (Row A) → B → (A → B) → B
decided [] accepted refused = accepted
decided ((t gives a) ∷ rows) accepted refused = if t then refused a otherwise decided rows accepted refused
