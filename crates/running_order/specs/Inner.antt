-- What contracts between functions cite.
use Rattle.std.specs.Prelude.{ℕ, ◌%◌, ◌≤◌, ◌<◌, ◌≡◌, List, ◌++◌, [], ◌∷◌, length, take}
use Rattle.octets.specs.Bytes.{if◌then◌otherwise◌}
use Rattle.octets.specs.Clauses.{Each}
use Rattle.terms.specs.Terms.{opening}
use Rattle.running_order.specs.Order.{shown, order_number}

-- the first n of the 256 numbers l are ks
pub record Holds (l : List ℕ) (n : ℕ) (ks : List ℕ) : Type 0 where
  pub first : take n l ≡ ks
  pub count : n ≡ length ks
  pub size : length l ≡ 256

-- ks and the number of slot i after them, where it is shown
unfoldable pub with_slot : List ℕ → List ℕ → ℕ → ℕ → List ℕ → List ℕ
with_slot s t day i ks = ks ++ (if shown s t day i then (order_number s t i ∷ []) otherwise [])

-- each of the numbers l carries a slot below m
pub record Carry (l : List ℕ) (m : ℕ) : Type 0 where
  pub slots : Each (λ k. k % 256 < m) l

-- no slot of a fit term sheet opens after the last day
pub record OpenDays (t : List ℕ) (n : ℕ) : Type 0 where
  pub opens : (i : ℕ) → i < n → opening t i ≤ 36524
