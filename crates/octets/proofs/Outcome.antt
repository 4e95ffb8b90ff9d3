-- Laws of a table of tests: one row at a time, and one table after another.
use mathlib.Core.Path.{◌≡◌, refl, ap}
use mathlib.Core.Bool.{Bool, true, false}
use mathlib.Core.List.{List, [], ◌∷◌, ◌++◌}
use Rattle.octets.specs.Bytes.{if◌then◌otherwise◌}
use Rattle.octets.specs.Outcome.{Row, ◌gives◌, decided}

module _ {A B : Type 0} (t : Bool) (a : A) (rows : List (Row A)) (accept : B) (refuse : A → B) where
  -- the first row applies
  pub decided_first : {x : B} → t ≡ true → x ≡ refuse a → x ≡ decided ((t gives a) ∷ rows) accept refuse
  unfolding decided
  decided_first e h = rw e h

  -- the first row does not apply
  pub decided_rest : {x : B} → t ≡ false → x ≡ decided rows accept refuse → x ≡ decided ((t gives a) ∷ rows) accept refuse
  unfolding decided
  decided_rest e h = rw e h

pub decided_none : {A B : Type 0} (accept : B) (refuse : A → B) → accept ≡ decided [] accept refuse
unfolding decided
decided_none accept refuse = refl

-- a table after another
pub decided_append : {A B : Type 0} (xs ys : List (Row A)) (accept : B) (refuse : A → B)
    → decided (xs ++ ys) accept refuse ≡ decided xs (decided ys accept refuse) refuse
unfolding decided
decided_append [] ys accept refuse = refl
decided_append ((t gives a) ∷ xs) ys accept refuse = ap (λ r. if t then refuse a otherwise r) (decided_append xs ys accept refuse)
