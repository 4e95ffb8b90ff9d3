-- The test of a text decides the grammar.
use Prim.Native.Nat.{ℕ, ◌≤◌}
use mathlib.Core.Path.{◌≡◌, refl, sym, ap, ◌∙◌, subst}
use mathlib.Core.Bool.{Bool, true, false, ◌||◌, false≢true}
use mathlib.Core.List.Memᴰ
use mathlib.Core.List.{List, [], ◌∷◌, ◌++◌, Memᴰ}
use mathlib.Core.Logic.{◌↔◌, ⊎_elim}
use lib.Dec.{leb}
use borrow.Author.Tests.{leb-true, le-leb}
use Rattle.octets.specs.Bytes.{if◌then◌otherwise◌}
use Rattle.octets.proofs.Clauses.{Reflects}
use Rattle.octets.proofs.Bool.{and_left, and_right, and_both}
use Rattle.text.specs.Grammar.{Range, ◌to◌, tail, forms, Fits, none, more, Utf8, empty, char, inside, after, some, meets, well_formed}

pub inside_low : (low high x : ℕ) → inside (low to high) x ≡ true → low ≤ x
unfolding inside
inside_low low high x e = leb-true low x (and_left (leb low x) (leb x high) e)

pub inside_high : (low high x : ℕ) → inside (low to high) x ≡ true → x ≤ high
unfolding inside
inside_high low high x e = leb-true x high (and_right (leb low x) (leb x high) e)

pub inside_yes : (low high x : ℕ) → low ≤ x → x ≤ high → inside (low to high) x ≡ true
unfolding inside
inside_yes low high x l h = and_both (leb low x) (leb x high) (le-leb low x l) (le-leb x high h)

pub or_right : (a b : Bool) → b ≡ true → a || b ≡ true
or_right true b e = refl
or_right false b e = e

abbrev head : List Range → Range
head [] = tail
head (r ∷ row) = r

abbrev rest : List Range → List Range
rest [] = []
rest (r ∷ row) = row

abbrev is_empty : List Range → Bool
is_empty [] = true
is_empty (r ∷ row) = false

cons_not_nil : {r : Range} {row : List Range} → (r ∷ row) ≡ [] → ⊥
cons_not_nil q = false≢true (ap is_empty q)

fits_none : {c : List ℕ} → Fits [] c → c ≡ []
fits_none none = refl

-- no row of a table is empty
abbrev filled : List (List Range) → Bool
filled [] = true
filled ([] ∷ rows) = false
filled ((r ∷ row) ∷ rows) = filled rows

none_in : (rows : List (List Range)) → filled rows ≡ true → Memᴰ [] rows → ⊥
none_in [] e m = Memᴰ.not-nil m
none_in ([] ∷ rows) e m = false≢true e
none_in ((r ∷ row) ∷ rows) e m = ⊎_elim (λ q. cons_not_nil (sym q)) (none_in rows e) (Memᴰ.cases_cons m)

-- ---- a row that begins with x

-- a row of the table has x in its first range, and the rest of the row passes p
pub data Begins (x : ℕ) (p : List Range → Bool) (rows : List (List Range)) : Type 0 where
  begins : (r : Range) (row : List Range) → Memᴰ (r ∷ row) rows → inside r x ≡ true → p row ≡ true → Begins x p rows

later : {x : ℕ} {p : List Range → Bool} {row : List Range} {rows : List (List Range)} → Begins x p rows → Begins x p (row ∷ rows)
later (begins r row m i e) = begins r row (Memᴰ.tail m) i e

some_begins : (x : ℕ) (p : List Range → Bool) (rows : List (List Range)) → some (after x rows) p ≡ true → Begins x p rows
unfolding some after
some_begins x p [] e = absurd (false≢true e)
some_begins x p ([] ∷ rows) e = later (some_begins x p rows e)
some_begins x p ((r ∷ row) ∷ rows) e = go (inside r x) refl (p row) refl e (some_begins x p rows)
  where
    go : (i : Bool) → inside r x ≡ i → (q : Bool) → p row ≡ q → some (if i then row ∷ after x rows otherwise after x rows) p ≡ true
        → (some (after x rows) p ≡ true → Begins x p rows) → Begins x p ((r ∷ row) ∷ rows)
    go true i true q e f = begins r row (Memᴰ.head refl) i q
    go true i false q e f = later (f (rw q at e))
    go false i q' q e f = later (f e)

begins_some : (x : ℕ) (p : List Range → Bool) (rows : List (List Range)) (r : Range) (row : List Range)
    → Memᴰ (r ∷ row) rows → inside r x ≡ true → p row ≡ true → some (after x rows) p ≡ true
unfolding some after
begins_some x p [] r row m i e = absurd (Memᴰ.not-nil m)
begins_some x p ([] ∷ rows) r row m i e = ⊎_elim (λ q. absurd (cons_not_nil q)) (λ l. begins_some x p rows r row l i e) (Memᴰ.cases_cons m)
begins_some x p ((r' ∷ row') ∷ rows) r row m i e = ⊎_elim here (λ l. there (inside r' x) (begins_some x p rows r row l i e)) (Memᴰ.cases_cons m)
  where
    here : (r ∷ row) ≡ (r' ∷ row') → some (if inside r' x then row' ∷ after x rows otherwise after x rows) p ≡ true
    here q =
        let i' : inside r' x ≡ true = subst (λ l. inside (head l) x ≡ true) q i in
        let e' : p row' ≡ true = subst (λ l. p (rest l) ≡ true) q e in
        rw (i', e')

    there : (b : Bool) → some (after x rows) p ≡ true → some (if b then row' ∷ after x rows otherwise after x rows) p ≡ true
    there true f = or_right (p row') (some (after x rows) p) f
    there false f = f

-- ---- bytes of a character that is begun, and the characters after it

pub data Split (ranges : List Range) (s : List ℕ) : Type 0 where
  split : (c t : List ℕ) → Fits ranges c → Utf8 t → s ≡ c ++ t → Split ranges s

split_utf8 : {s : List ℕ} → Split [] s → Utf8 s
split_utf8 (split c t f o e) = subst Utf8 (sym (e ∙ ap (λ l. l ++ t) (fits_none f))) o

split_more : (r : Range) (ranges : List Range) (x : ℕ) (s : List ℕ) → inside r x ≡ true → Split ranges s → Split (r ∷ ranges) (x ∷ s)
split_more (low to high) ranges x s i (split c t f o e) =
    split (x ∷ c) t (more (inside_low low high x i) (inside_high low high x i) f) o (ap (λ l. x ∷ l) e)

split_char : (r : Range) (ranges : List Range) (x : ℕ) (s : List ℕ) → Memᴰ (r ∷ ranges) forms → inside r x ≡ true → Split ranges s → Split [] (x ∷ s)
split_char (low to high) ranges x s m i (split c t f o e) =
    split [] (x ∷ s) none (subst (λ l. Utf8 (x ∷ l)) (sym e) (char m (more (inside_low low high x i) (inside_high low high x i) f) o)) refl

begins_split : (x : ℕ) (s : List ℕ) → Begins x (meets s) forms → ((ranges : List Range) → meets s ranges ≡ true → Split ranges s) → Split [] (x ∷ s)
begins_split x s (begins r row m i e) f = split_char r row x s m i (f row e)

meets_split : (s : List ℕ) (ranges : List Range) → meets s ranges ≡ true → Split ranges s
unfolding meets
meets_split [] [] e = split [] [] none empty refl
meets_split [] (r ∷ ranges) e = absurd (false≢true e)
meets_split (x ∷ s) [] e = begins_split x s (some_begins x (meets s) forms e) (meets_split s)
meets_split (x ∷ s) (r ∷ ranges) e =
    split_more r ranges x s (and_left (inside r x) (meets s ranges) e) (meets_split s ranges (and_right (inside r x) (meets s ranges) e))

fits_meets : {ranges : List Range} {c : List ℕ} (t : List ℕ) → Fits ranges c → meets t [] ≡ true → meets (c ++ t) ranges ≡ true
unfolding meets
fits_meets t none e = e
fits_meets t (more {low} {high} {x} {ranges} {s} l h f) e =
    and_both (inside (low to high) x) (meets (s ++ t) ranges) (inside_yes low high x l h) (fits_meets t f e)

-- no row is empty
no_empty : Memᴰ [] forms → ⊥
unfolding forms
no_empty m = none_in forms refl m

char_meets : {form : List Range} {c : List ℕ} (t : List ℕ) → Memᴰ form forms → Fits form c → meets t [] ≡ true → meets (c ++ t) [] ≡ true
unfolding meets
char_meets t m none e = absurd (no_empty m)
char_meets t m (more {low} {high} {x} {ranges} {s} l h f) e =
    begins_some x (meets (s ++ t)) forms (low to high) ranges m (inside_yes low high x l h) (fits_meets t f e)

utf8_meets : {s : List ℕ} → Utf8 s → meets s [] ≡ true
unfolding meets
utf8_meets empty = refl
utf8_meets (char {s = t} m f o) = char_meets t m f (utf8_meets o)

pub reflects_utf8 : (s : List ℕ) → Reflects (well_formed s) (Utf8 s)
unfolding well_formed
reflects_utf8 s = record { holds = λ e. split_utf8 (meets_split s [] e); fails = λ e o. false≢true (sym e ∙ utf8_meets o) }

pub tested : (s : List ℕ) → (well_formed s ≡ true) ↔ Utf8 s
unfolding well_formed
tested s = ((reflects_utf8 s).holds, utf8_meets)
