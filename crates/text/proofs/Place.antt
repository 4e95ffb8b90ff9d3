-- The place at which bytes break is where no well-formed text can go on.
use Prim.Native.Nat.{ℕ, suc, ◌+◌, ◌≤◌, ◌<◌, max}
use mathlib.Core.Path.{◌≡◌, refl, sym, ap, ◌∙◌, subst}
use mathlib.Core.Bool.{Bool, true, false, ◌&&◌, ◌||◌, false≢true}
use mathlib.Core.List.{List, [], ◌∷◌, ◌++◌, append_assoc}
use native.Mathlib.Decide.{dec_lt, dec_le}
use native.Mathlib.Nat.{le-max_left, le-max_right, max-le, max-eq_left, max-eq_right}
use native.Mathlib.Omega.{arith}
use lib.Dec.{leb}
use lib.ListN.{length, take, drop, take-append-drop}
use lib.Seq.{length-take-le, take-take}
use borrow.Author.Tests.{leb-true}
use Rattle.octets.specs.Bytes.{if◌then◌otherwise◌}
use Rattle.octets.proofs.Bool.{and_left, and_right, and_both}
use Rattle.text.specs.Grammar.{Range, ◌to◌, forms, Utf8, inside, after, some, meets, well_formed}
use Rattle.text.specs.Place.{GoesOn, BreaksAt, furthest, reached, broken_at}
use Rattle.text.proofs.Grammar.{inside_yes, or_right, tested}

-- ---- no further than bytes can go on

-- a row that passes goes as far as the furthest
some_furthest : (n : ℕ) (p : List Range → Bool) (f : List Range → ℕ) → ((row : List Range) → p row ≡ true → n ≤ f row)
    → (rows : List (List Range)) → some rows p ≡ true → n < furthest rows f
unfolding some furthest
some_furthest n p f h [] e = absurd (false≢true e)
some_furthest n p f h (row ∷ rows) e = go (p row) refl e (some_furthest n p f h rows)
  where
    go : (b : Bool) → p row ≡ b → b || some rows p ≡ true → (some rows p ≡ true → n < furthest rows f) → n < max (suc (f row)) (furthest rows f)
    go true q e g = omega (arith, h row q, le-max_left (suc (f row)) (furthest rows f))
    go false q e g = omega (arith, g e, le-max_right (suc (f row)) (furthest rows f))

-- bytes s that can go on by t are reached in whatever begins with them
reached_most : (s t u : List ℕ) (ranges : List Range) → meets (s ++ t) ranges ≡ true → length s ≤ reached (s ++ u) ranges
unfolding meets reached
reached_most [] t u ranges e = omega arith
reached_most (x ∷ s) t u [] e = some_furthest (length s) (meets (s ++ t)) (reached (s ++ u)) (reached_most s t u) (after x forms) e
reached_most (x ∷ s) t u (r ∷ ranges) e =
    rw (and_left (inside r x) (meets (s ++ t) ranges) e) (omega (arith, reached_most s t u ranges (and_right (inside r x) (meets (s ++ t) ranges) e)))

-- ---- and as far

-- no range is empty, in a row and in every row
unfoldable fillable : List Range → Bool
fillable [] = true
fillable (low to high ∷ ranges) = leb low high && fillable ranges

unfoldable all_fillable : List (List Range) → Bool
all_fillable [] = true
all_fillable (row ∷ rows) = fillable row && all_fillable rows

fillable_rest : (r : Range) (ranges : List Range) → fillable (r ∷ ranges) ≡ true → fillable ranges ≡ true
unfolding fillable
fillable_rest (low to high) ranges e = and_right (leb low high) (fillable ranges) e

after_fillable : (x : ℕ) (rows : List (List Range)) → all_fillable rows ≡ true → all_fillable (after x rows) ≡ true
unfolding after all_fillable
after_fillable x [] e = refl
after_fillable x ([] ∷ rows) e = after_fillable x rows (and_right (fillable []) (all_fillable rows) e)
after_fillable x ((r ∷ row) ∷ rows) e = go (inside r x) (after_fillable x rows (and_right (fillable (r ∷ row)) (all_fillable rows) e))
  where
    go : (b : Bool) → all_fillable (after x rows) ≡ true → all_fillable (if b then row ∷ after x rows otherwise after x rows) ≡ true
    go true g = and_both (fillable row) (all_fillable (after x rows)) (fillable_rest r row (and_left (fillable (r ∷ row)) (all_fillable rows) e)) g
    go false g = g

-- bytes that fill ranges
lows : List Range → List ℕ
lows [] = []
lows (low to high ∷ ranges) = low ∷ lows ranges

lows_meet : (ranges : List Range) → fillable ranges ≡ true → meets (lows ranges) ranges ≡ true
unfolding meets fillable lows
lows_meet [] e = refl
lows_meet (low to high ∷ ranges) e =
    and_both (inside (low to high) low) (meets (lows ranges) ranges)
    (inside_yes low high low (omega arith) (leb-true low high (and_left (leb low high) (fillable ranges) e))) (lows_meet ranges (and_right (leb low high) (fillable ranges) e))

-- the row that goes furthest, if there is one
data Best (f : List Range → ℕ) (rows : List (List Range)) : Type 0 where
  no_row : furthest rows f ≡ 0 → Best f rows
  best : (row : List Range) → fillable row ≡ true → furthest rows f ≡ suc (f row) → ((p : List Range → Bool) → p row ≡ true → some rows p ≡ true) → Best f rows

or_left : (a b : Bool) → a ≡ true → a || b ≡ true
or_left a b e = rw e

find_best : (f : List Range → ℕ) (rows : List (List Range)) → all_fillable rows ≡ true → Best f rows
unfolding furthest some all_fillable
find_best f [] e = no_row refl
find_best f (row ∷ rows) e = go (dec_le (furthest rows f) (suc (f row))) (find_best f rows (and_right (fillable row) (all_fillable rows) e))
  where
    go : Dec (furthest rows f ≤ suc (f row)) → Best f rows → Best f (row ∷ rows)
    go (yes l) b = best row (and_left (fillable row) (all_fillable rows) e) (max-eq_left l) (λ p q. or_left (p row) (some rows p) q)
    go (no l) (no_row z) = absurd (omega (arith, z))
    go (no l) (best r h z s) = best r h (max-eq_right (omega arith) ∙ z) (λ p q. or_right (p row) (some rows p) (s p q))

-- bytes that can go on by t
record Goes (s : List ℕ) (ranges : List Range) : Type 0 where
  by : List ℕ
  passes : meets (s ++ by) ranges ≡ true

reached_goes : (s : List ℕ) (ranges : List Range) → fillable ranges ≡ true → Goes (take (reached s ranges) s) ranges
unfolding reached
reached_goes [] ranges e = record { by = lows ranges; passes = lows_meet ranges e }
reached_goes (x ∷ s) [] e = go (find_best (reached s) (after x forms) (after_fillable x forms all)) (reached_goes s)
  where
    all : all_fillable forms ≡ true
    all = unfold forms all_fillable fillable in refl

    go : Best (reached s) (after x forms) → ((row : List Range) → fillable row ≡ true → Goes (take (reached s row) s) row) → Goes (take (furthest (after x forms) (reached s)) (x ∷ s)) []
    go (no_row z) h = rw z (record { by = []; passes = unfold meets in refl })
    go (best row l z f) h = let g = h row l in rw z (record { by = g.by; passes = unfold meets in f (meets (take (reached s row) s ++ g.by)) g.passes })
reached_goes (x ∷ s) (r ∷ ranges) e = go (inside r x) refl (reached_goes s ranges (fillable_rest r ranges e))
  where
    go : (b : Bool) → inside r x ≡ b → Goes (take (reached s ranges) s) ranges → Goes (take (if b then suc (reached s ranges) otherwise 0) (x ∷ s)) (r ∷ ranges)
    go true q g = record { by = g.by; passes = unfold meets in rw q g.passes }
    go false q g = record { by = lows (r ∷ ranges); passes = lows_meet (r ∷ ranges) e }

-- ---- the place

furthest_within : (n : ℕ) (f : List Range → ℕ) → ((row : List Range) → f row ≤ n) → (rows : List (List Range)) → furthest rows f ≤ suc n
unfolding furthest
furthest_within n f h [] = omega arith
furthest_within n f h (row ∷ rows) = max-le (omega (arith, h row)) (furthest_within n f h rows)

reached_within : (s : List ℕ) (ranges : List Range) → reached s ranges ≤ length s
unfolding reached
reached_within [] ranges = omega arith
reached_within (x ∷ s) [] = furthest_within (length s) (reached s) (reached_within s) (after x forms)
reached_within (x ∷ s) (r ∷ ranges) = go (inside r x) (reached_within s ranges)
  where
    go : (b : Bool) → reached s ranges ≤ length s → (if b then suc (reached s ranges) otherwise 0) ≤ suc (length s)
    go true h = omega (arith, h)
    go false h = omega arith

pub breaks_at : (s : List ℕ) → BreaksAt s (broken_at s)
unfolding broken_at well_formed fillable
breaks_at s =
    record {
      within = reached_within s [];
      goes = let g = reached_goes s [] refl in record { rest = g.by; text = (tested (take (reached s []) s ++ g.by)).0 g.passes };
      breaks = λ l g. further l (reached_most (take (broken_at s + 1) s) g.rest (drop (broken_at s + 1) s) [] ((tested (take (broken_at s + 1) s ++ g.rest)).1 g.text));
    }
  where
    further : broken_at s < length s → length (take (broken_at s + 1) s) ≤ reached (take (broken_at s + 1) s ++ drop (broken_at s + 1) s) [] → ⊥
    further l h = omega (arith, rw (take-append-drop (broken_at s + 1) s, length-take-le (broken_at s + 1) s (omega arith)) at h)

-- ---- one place

-- what begins bytes that can go on can go on
goes_before : (s t : List ℕ) → GoesOn (s ++ t) → GoesOn s
goes_before s t g = record { rest = t ++ g.rest; text = subst Utf8 (append_assoc s t g.rest) g.text }

goes_sooner : (s : List ℕ) (p q : ℕ) → p ≤ q → GoesOn (take q s) → GoesOn (take p s)
goes_sooner s p q l g =
    goes_before (take p s) (drop p (take q s))
    (subst GoesOn (sym (take-append-drop p (take q s)) ∙ ap (λ (u : List ℕ). u ++ drop p (take q s)) (take-take p q s l)) g)

pub one_place : (s : List ℕ) (p q : ℕ) → BreaksAt s p → BreaksAt s q → p ≡ q
one_place s p q a b = go (dec_lt p q) (dec_lt q p)
  where
    never : (x y : ℕ) → BreaksAt s x → BreaksAt s y → x < y → ⊥
    never x y c d l = c.breaks (omega (arith, d.within)) (goes_sooner s (x + 1) y (omega arith) d.goes)

    go : Dec (p < q) → Dec (q < p) → p ≡ q
    go (yes l) r = absurd (never p q a b l)
    go (no l) (yes r) = absurd (never q p b a r)
    go (no l) (no r) = omega arith
