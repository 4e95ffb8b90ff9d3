-- A table of faults whose rows stand in order: the first that applies is the lowest.
use Prim.Native.Nat.{ℕ, ◌≤◌}
use mathlib.Core.Path.{◌≡◌, refl, subst}
use mathlib.Core.Bool.{Bool, true, false, false≢true}
use mathlib.Core.List.{List, [], ◌∷◌}
use native.Mathlib.Omega.{arith}
use Rattle.std.specs.Prelude.{Option, None, Some}
use Rattle.octets.specs.Outcome.{Row, ◌gives◌, decided}
use Rattle.faults.specs.Faults.{first_in}
use Rattle.faults.specs.First.{order}
use Rattle.faults.specs.declared.Fault.{Fault}

-- where a test applies P holds of its fault, and no row stands before a lower one, or before n
pub data Ordered (P : Fault → Type 0) : ℕ → List (Row Fault) → Type 0 where
  end : {n : ℕ} → Ordered P n []
  row : {n : ℕ} {t : Bool} {f : Fault} {rows : List (Row Fault)} → (t ≡ true → P f) → n ≤ order f → Ordered P (order f) rows → Ordered P n ((t gives f) ∷ rows)

-- a row that applies
pub data Applies (f : Fault) : List (Row Fault) → Type 0 where
  here : {t : Bool} {rows : List (Row Fault)} → t ≡ true → Applies f ((t gives f) ∷ rows)
  there : {r : Row Fault} {rows : List (Row Fault)} → Applies f rows → Applies f (r ∷ rows)

-- no row applies
pub data Quiet : List (Row Fault) → Type 0 where
  end : Quiet []
  row : {t : Bool} {f : Fault} {rows : List (Row Fault)} → t ≡ false → Quiet rows → Quiet ((t gives f) ∷ rows)

pub quiet_none : {rows : List (Row Fault)} → Quiet rows → first_in rows ≡ None
unfolding first_in decided
quiet_none end = refl
quiet_none (row e q) = rw e (quiet_none q)

pub none_quiet : (rows : List (Row Fault)) → first_in rows ≡ None → Quiet rows
unfolding first_in decided
none_quiet [] h = end
none_quiet ((true gives f) ∷ rows) h = absurd (cc)
none_quiet ((false gives f) ∷ rows) h = row refl (none_quiet rows h)

-- the first, where the row of f applies: P holds of it, and it stands no later
pub record Lowest (P : Fault → Type 0) (f : Fault) (first : Option Fault) : Type 0 where
  pub fault : Fault
  pub is : first ≡ Some fault
  pub holds : P fault
  pub low : order fault ≤ order f

module _ {P : Fault → Type 0} where
  pub found : {n : ℕ} (rows : List (Row Fault)) → Ordered P n rows → (f : Fault) → first_in rows ≡ Some f → P f
  unfolding first_in decided
  found {n = n} [] end f h = absurd (cc)
  found {n = n} ((true gives g) ∷ rows) (row p l o) f h = let e : g ≡ f = cc in subst P e (p refl)
  found {n = n} ((false gives g) ∷ rows) (row p l o) f h = found {n = order g} rows o f h

  above : {n : ℕ} {f : Fault} (rows : List (Row Fault)) → Ordered P n rows → Applies f rows → n ≤ order f
  above {n = n} {f = f} [] _ x = elim x [ ]
  above {n = n} {f = f} ((t gives g) ∷ rows) (row p l o) (here e) = l
  above {n = n} {f = f} ((t gives g) ∷ rows) (row p l o) (there a) = omega (arith, l, above {n = order g} {f = f} rows o a)

  pub lowest : {n : ℕ} {f : Fault} (rows : List (Row Fault)) → Ordered P n rows → Applies f rows → Lowest P f (first_in rows)
  unfolding first_in decided
  lowest {n = n} {f = f} [] _ x = elim x [ ]
  lowest {n = n} {f = f} ((true gives g) ∷ rows) (row p l o) (here e) = record { fault = g; is = refl; holds = p refl; low = omega arith }
  lowest {n = n} {f = f} ((true gives g) ∷ rows) (row p l o) (there a) = record { fault = g; is = refl; holds = p refl; low = above rows o a }
  lowest {n = n} {f = f} ((false gives g) ∷ rows) (row p l o) (here e) = absurd (false≢true e)
  lowest {n = n} {f = f} ((false gives g) ∷ rows) (row p l o) (there a) = lowest {n = order g} {f = f} rows o a
