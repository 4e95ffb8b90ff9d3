-- Laws of a table of tests: what follows where no row applies, functions after it, and two tables that agree row by row.
use mathlib.Core.Path.{◌≡◌, refl, sym, ◌∙◌}
use mathlib.Core.Bool.{Bool, true, false, false≢true}
use mathlib.Core.List.{List, [], ◌∷◌, ◌++◌}
use Rattle.std.specs.Prelude.{Result, Ok, Err}
use Rattle.octets.specs.Bytes.{if◌then◌otherwise◌}
use Rattle.octets.specs.Outcome.{Row, ◌gives◌, decided}
use Rattle.octets.proofs.Outcome.{decided_append}

-- no row applies
pub data Unmet {A : Type 0} : List (Row A) → Type 0 where
  end : Unmet []
  next : {t : Bool} {a : A} {rows : List (Row A)} → t ≡ false → Unmet rows → Unmet ((t gives a) ∷ rows)

-- two tables give the same answers in the same order, by tests that agree where no row before applies
pub data Agree {A : Type 0} : List (Row A) → List (Row A) → Type 0 where
  end : Agree [] []
  next : {t u : Bool} {a : A} {rows rows' : List (Row A)} → t ≡ u → (t ≡ false → Agree rows rows') → Agree ((t gives a) ∷ rows) ((u gives a) ∷ rows')

module _ {A : Type 0} where
  pub unmet_append : {xs ys : List (Row A)} → Unmet xs → Unmet ys → Unmet (xs ++ ys)
  unmet_append end v = v
  unmet_append (next e u) v = next e (unmet_append u v)

  pub unmet_left : (xs ys : List (Row A)) → Unmet (xs ++ ys) → Unmet xs
  unmet_left [] ys u = end
  unmet_left ((t gives a) ∷ xs) ys (next e u) = next e (unmet_left xs ys u)

  pub unmet_right : (xs ys : List (Row A)) → Unmet (xs ++ ys) → Unmet ys
  unmet_right [] ys u = u
  unmet_right ((t gives a) ∷ xs) ys (next e u) = unmet_right xs ys u

  pub unmet_first : {t : Bool} {a : A} {rows : List (Row A)} → Unmet ((t gives a) ∷ rows) → t ≡ false
  unmet_first (next e u) = e

  pub unmet_rest : {t : Bool} {a : A} {rows : List (Row A)} → Unmet ((t gives a) ∷ rows) → Unmet rows
  unmet_rest (next e u) = u

  pub agree_refl : (rows : List (Row A)) → Agree rows rows
  agree_refl [] = end
  agree_refl ((t gives a) ∷ rows) = next refl (λ e. agree_refl rows)

  pub agree_append : (xs : List (Row A)) {ys zs : List (Row A)} → (Unmet xs → Agree ys zs) → Agree (xs ++ ys) (xs ++ zs)
  agree_append [] f = f end
  agree_append ((t gives a) ∷ xs) f = next refl (λ e. agree_append xs (λ u. f (next e u)))

module _ {A B : Type 0} where
  -- where no row applies the call is accepted
  pub decided_unmet : (rows : List (Row A)) (x : B) (f : A → B) → Unmet rows → decided rows x f ≡ x
  unfolding decided
  decided_unmet [] x f end = refl
  decided_unmet ((t gives a) ∷ rows) x f (next e u) = rw e (decided_unmet rows x f u)

  -- rows that do not apply, before others
  pub decided_past : (xs ys : List (Row A)) (x y : B) (f : A → B) → Unmet xs → decided ys x f ≡ y → decided (xs ++ ys) x f ≡ y
  decided_past xs ys x y f u h = decided_append xs ys x f ∙ decided_unmet xs (decided ys x f) f u ∙ h

  pub decided_past_both : (xs xs' ys ys' : List (Row A)) (x x' : B) (f f' : A → B) → Unmet xs → Unmet xs' → decided ys x f ≡ decided ys' x' f'
      → decided (xs ++ ys) x f ≡ decided (xs' ++ ys') x' f'
  decided_past_both xs xs' ys ys' x x' f f' u u' h =
      decided_past xs ys x (decided ys' x' f') f u h ∙ sym (decided_past xs' ys' x' (decided ys' x' f') f' u' refl)

  -- what is accepted counts only where no row applies
  pub decided_cong : (rows : List (Row A)) (x y : B) (f : A → B) → (Unmet rows → x ≡ y) → decided rows x f ≡ decided rows y f
  unfolding decided
  decided_cong [] x y f h = h end
  decided_cong ((true gives a) ∷ rows) x y f h = refl
  decided_cong ((false gives a) ∷ rows) x y f h = decided_cong rows x y f (λ u. h (next refl u))

  -- what follows a table counts only where no row of it applies
  pub decided_rest_cong : (xs ys ys' : List (Row A)) (x x' : B) (f : A → B) → (Unmet xs → decided ys x f ≡ decided ys' x' f)
      → decided (xs ++ ys) x f ≡ decided (xs ++ ys') x' f
  decided_rest_cong xs ys ys' x x' f h =
      decided_append xs ys x f ∙ decided_cong xs (decided ys x f) (decided ys' x' f) f h ∙ sym (decided_append xs ys' x' f)

  -- tables that agree row by row
  pub decided_agree : {rows rows' : List (Row A)} (x y : B) (f : A → B) → Agree rows rows' → (Unmet rows → x ≡ y) → decided rows x f ≡ decided rows' y f
  unfolding decided
  decided_agree x y f end h = h end
  decided_agree x y f (next {t = true} {u} {a} {rows} {rows'} e r) h = rw (← e)
  decided_agree x y f (next {t = false} {u} {a} {rows} {rows'} e r) h = rw (← e) (decided_agree x y f (r refl) (λ v. h (next refl v)))

-- a table that comes to no refusal by itself met no row
pub passed_unmet : {A : Type 0} (rows : List (Row A)) → ◌≡◌ {A = Result (Unit {0}) A} (decided rows (Ok tt) Err) (Ok tt) → Unmet rows
unfolding decided
passed_unmet [] h = end
passed_unmet ((true gives a) ∷ rows) h = absurd (cc)
passed_unmet ((false gives a) ∷ rows) h = next refl (passed_unmet rows h)

-- a function after a table
pub decided_map : {A B C : Type 0} (g : B → C) (rows : List (Row A)) (x : B) (f : A → B)
    → g (decided rows x f) ≡ decided rows (g x) (λ a. g (f a))
unfolding decided
decided_map g [] x f = refl
decided_map g ((true gives a) ∷ rows) x f = refl
decided_map g ((false gives a) ∷ rows) x f = decided_map g rows x f

-- a table beside a cascade of tests, where P relates what the two come to
module _ {A B C : Type 0} (P : B → C → Type 0) where
  -- rows of the table alone, that do not apply
  pub past_rows : (xs ys : List (Row A)) (x : B) (y : C) (f : A → B) → Unmet xs → P (decided ys x f) y → P (decided (xs ++ ys) x f) y
  past_rows xs ys x y f u h = rw (decided_past xs ys x (decided ys x f) f u refl) h

  -- a test that both make alike
  pub row_beside : (t u : Bool) (a : A) (rows : List (Row A)) (x : B) (f : A → B) (y z : C) → t ≡ u → P (f a) y → (u ≡ false → P (decided rows x f) z)
      → P (decided ((t gives a) ∷ rows) x f) (if u then y otherwise z)
  unfolding decided
  row_beside true true a rows x f y z e h g = h
  row_beside true false a rows x f y z e h g = absurd (false≢true (sym e))
  row_beside false true a rows x f y z e h g = absurd (false≢true e)
  row_beside false false a rows x f y z e h g = g refl

  pub rows_end : (x : B) (y : C) (f : A → B) → P x y → P (decided [] x f) y
  unfolding decided
  rows_end x y f h = h
