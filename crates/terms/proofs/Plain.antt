-- When a slot is on show, in plain numbers.
use Prim.Native.Nat.{ℕ, ◌≤◌}
use mathlib.Core.Path.{◌≡◌}
use mathlib.Core.Bool.{true, false}
use mathlib.Core.List.{List}
use mathlib.Core.Logic.{◌↔◌}
use native.Mathlib.Omega.{arith}
use Rattle.octets.proofs.Clauses.{reflects_yes, reflects_no}
use Rattle.terms.specs.Terms.{opening, closing, on_show}
use Rattle.terms.specs.Rules.{OnShow}
use Rattle.terms.proofs.Meaning.{reflects_show}

pub show_plain : (n : ℕ) (t : List ℕ) (i day : ℕ) → OnShow n t i day ↔ ((opening t i ≤ day) × (day ≤ closing n t i))
show_plain n t i day = (λ o. (o.from, o.to), λ h. record { from = h.0; to = h.1 })

-- a term of one day
module _ (n : ℕ) (t : List ℕ) (i day : ℕ) (e : opening t i ≡ day) (f : closing n t i ≡ day) where
  pub one_day : on_show n t i day ≡ true
  one_day = reflects_yes (reflects_show n t i day) ((show_plain n t i day).1 (omega (arith, e), omega (arith, f)))

  pub no_other_day : (other : ℕ) → (other ≡ day → ⊥) → on_show n t i other ≡ false
  no_other_day other d =
      reflects_no (reflects_show n t i other) (λ o. let h = (show_plain n t i other).0 o in d (omega (arith, h.0, h.1, e, f)))
