-- What the call on a running order answers and leaves in the output.
use Rattle.std.specs.Prelude.{ℕ, List, [], ◌∷◌, ltb, length, Option, Some, None}
use Rattle.octets.specs.Bytes.{put}
use Rattle.octets.specs.Outcome.{Outcome, Row, ◌gives◌, decided}
use Rattle.running_order.specs.Order.{running_order}

-- the number of each answer in document 01, 3 where the text does not fit, and the bytes put
unfoldable pub order_outcome : Option ℕ → List ℕ → Outcome
order_outcome (Some n) bytes = record { number = 0; len = n; bytes = bytes }
order_outcome None bytes = record { number = 3; len = 0; bytes = bytes }

-- the one test: the text doesn't fit the output
unfoldable pub order_tests : List ℕ → List ℕ → List ℕ → List ℕ → List (Row (Option ℕ))
order_tests s t x out = (ltb (length out) (length (running_order s t x)) gives None) ∷ []

-- the text at the start of the output; a refusal leaves the output as it was
unfoldable pub ordering : List ℕ → List ℕ → List ℕ → List ℕ → Outcome
ordering s t x out =
    decided (order_tests s t x out) (order_outcome (Some (length (running_order s t x))) (put out 0 (running_order s t x))) (λ a. order_outcome a out)
