-- Where the days of a slot stand.
use Prim.Native.Nat.{ℕ, ◌+◌, ◌*◌, ◌≤◌}
use mathlib.Core.Path.{◌≡◌, ◌∙◌}
use mathlib.Core.List.{List}
use native.Mathlib.Omega.{arith}
use lib.ListN.{length, get_or}
use Rattle.octets.proofs.Numbers.{number_two}
use Rattle.terms.specs.Terms.{opening, closing}
use Rattle.terms.specs.Laws.{TermPlaces}

opens_at : (t : List ℕ) (i : ℕ) → 4 + 2 * i ≤ length t → opening t i ≡ get_or t (2 + 2 * i) 0 * 256 + get_or t (3 + 2 * i) 0
unfolding opening
opens_at t i h = let e : 2 + 2 * i + 1 ≡ 3 + 2 * i = omega arith in number_two t (2 + 2 * i) (omega arith) ∙ rw e

closes_at : (n : ℕ) (t : List ℕ) (i : ℕ) → 4 + 2 * n + 2 * i ≤ length t → closing n t i ≡ get_or t (2 + 2 * n + 2 * i) 0 * 256 + get_or t (3 + 2 * n + 2 * i) 0
unfolding closing
closes_at n t i h = let e : 2 + 2 * n + 2 * i + 1 ≡ 3 + 2 * n + 2 * i = omega arith in number_two t (2 + 2 * n + 2 * i) (omega arith) ∙ rw e

pub term_places : TermPlaces
term_places = record { opens_at = opens_at; closes_at = closes_at }
