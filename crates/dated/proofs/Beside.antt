-- The dated read beside the undated one: both are tables over the same tests, of which the dated one has three more.
use Prim.Native.Nat.{ℕ, ◌≤◌}
use mathlib.Core.Path.{◌≡◌, refl, sym, ◌∙◌}
use mathlib.Core.Bool.{Bool, true, false, not, false≢true}
use mathlib.Core.List.{List, [], ◌∷◌}
use mathlib.Core.Logic.{◌⊎◌, inl, inr}
use native.Mathlib.Omega.{arith}
use lib.Dec.{eqb, leb, ltb, lit≤}
use lib.ListN.{length}
use borrow.Author.Tests.{ltb-false, not-false}
use Rattle.std.specs.Prelude.{Ok, Err}
use Rattle.octets.specs.Bytes.{zeros, same}
use Rattle.octets.specs.Outcome.{◌gives◌, decided}
use Rattle.octets.proofs.Clauses.{reflects_not, reflects_yes, reflects_no, reflects_ltb}
use Rattle.layout.specs.Layout.{edition_of, slots, key_class, mark_length, mark, fit_in, blank_slot}
use Rattle.faults.specs.Faults.{fault_of}
use Rattle.faults.specs.declared.Fault.{Fault}
use Rattle.captions.specs.Answers.{Outcome, outcome, answer_number, answer_length, answer_point}
use Rattle.captions.specs.Captions.{Keys, Ciphers, loaded_for, other_keys, opened, altered, change}
use Rattle.captions.specs.Calls.{wrong_keys, other_class, key_tests, class_tests, sheet_tests, window_tests, open_tests, read_tests, reading_with, reading}
use Rattle.captions.specs.declared.Change.{Change}
use Rattle.captions.specs.declared.Refusal.TheVariants.{WrongKey, TwinKeys, WrongSpan, UnfitSheet, OtherKeyClass, NoSuchSlot, Blank, Altered, OtherKeys}
use Rattle.terms.specs.Terms.{fit_terms, on_show}
use Rattle.terms.specs.Rules.{MeetsTerms}
use Rattle.terms.proofs.Meaning.{reflects_terms, reflects_show}
use Rattle.dated.specs.declared.DatedRefusal.TheVariants.{Read, UnfitTerms, NoSuchDate, NotOnShow}
use Rattle.dated.specs.Calls.{DatedOutcome, dated_number, dated_length, dated_point, of_terms, dated_outcome, undated, dated_tests, dating_with, dating}
use Rattle.dated.specs.Laws.{NoneTo, TermsRefuse, DateRefuses, ShowRefuses, BesideUndated}

-- ---- over any tests: b₁ to b₁₀ and b₁₄ are those of the undated read, bₜ, b₁₁ and b₁₂ the three others

module _ (m : ℕ) (o z : List ℕ) (f : Fault) (i : ℕ) (c : Change) where
  undated_of : (b₁ b₂ b₃ b₄ b₅ b₁₄ b₆ b₉ b₁₀ : Bool) → Outcome
  undated_of b₁ b₂ b₃ b₄ b₅ b₁₄ b₆ b₉ b₁₀ =
      decided
      ((b₁ gives WrongKey) ∷ (b₂ gives TwinKeys) ∷ (b₃ gives WrongSpan) ∷ (b₄ gives UnfitSheet f) ∷ (b₅ gives OtherKeyClass) ∷ (b₁₄ gives OtherKeys) ∷ (b₆ gives NoSuchSlot) ∷ (b₉ gives Blank) ∷ (b₁₀ gives Altered i c) ∷ [])
      (outcome (Ok m) o) (λ r. outcome (Err r) z)

  dated_of : (b₁ b₂ b₃ b₄ bₜ b₅ b₁₁ b₁₄ b₆ b₉ b₁₂ b₁₀ : Bool) → DatedOutcome
  dated_of b₁ b₂ b₃ b₄ bₜ b₅ b₁₁ b₁₄ b₆ b₉ b₁₂ b₁₀ =
      decided
      ((b₁ gives Read WrongKey) ∷ (b₂ gives Read TwinKeys) ∷ (b₃ gives Read WrongSpan) ∷ (b₄ gives Read (UnfitSheet f)) ∷ (bₜ gives UnfitTerms) ∷ (b₅ gives Read OtherKeyClass) ∷ (b₁₁ gives NoSuchDate) ∷ (b₁₄ gives Read OtherKeys) ∷ (b₆ gives Read NoSuchSlot) ∷ (b₉ gives Read Blank) ∷ (b₁₂ gives NotOnShow) ∷ (b₁₀ gives Read (Altered i c)) ∷ [])
      (dated_outcome (Ok m) o) (λ r. dated_outcome (Err r) z)

-- when each of the three applies, with u the undated number
data TermsBy (bₜ : Bool) (u : ℕ) : Type 0 where
  terms_by : bₜ ≡ true → NoneTo 4 u → TermsBy bₜ u

data DateBy (bₜ b₁₁ : Bool) (u : ℕ) : Type 0 where
  date_by : bₜ ≡ false → b₁₁ ≡ true → NoneTo 5 u → DateBy bₜ b₁₁ u

data ShowBy (bₜ b₁₁ b₁₂ : Bool) (u : ℕ) : Type 0 where
  show_by : bₜ ≡ false → b₁₁ ≡ false → b₁₂ ≡ true → (u ≡ 0) ⊎ (u ≡ 10) → ShowBy bₜ b₁₁ b₁₂ u

-- u is a number of the undated read
abbrev Undated : ℕ → Type 0
Undated u = (u ≡ 11 → ⊥) × (u ≡ 12 → ⊥)

below_11 : (u : ℕ) → u ≤ 10 → Undated u
below_11 u l = (λ e. omega (arith, e), λ e. omega (arith, e))

fourteen : Undated 14
fourteen = (λ e. omega (arith, e), λ e. omega (arith, e))

data Way (bₜ b₁₁ b₁₂ : Bool) (u : Outcome) (d : DatedOutcome) : Type 0 where
  by_terms : TermsBy bₜ u.number → d.unfit_terms ≡ true → d.outcome.number ≡ 4 → Way bₜ b₁₁ b₁₂ u d
  by_date : DateBy bₜ b₁₁ u.number → d.unfit_terms ≡ false → d.outcome.number ≡ 11 → Way bₜ b₁₁ b₁₂ u d
  by_show : ShowBy bₜ b₁₁ b₁₂ u.number → d.unfit_terms ≡ false → d.outcome.number ≡ 12 → Way bₜ b₁₁ b₁₂ u d
  by_none : (TermsBy bₜ u.number → ⊥) → (DateBy bₜ b₁₁ u.number → ⊥) → (ShowBy bₜ b₁₁ b₁₂ u.number → ⊥)
      → Undated u.number → d.unfit_terms ≡ false → d.outcome ≡ u → Way bₜ b₁₁ b₁₂ u d

-- a number from 1 to 4 leaves none of the three
low : {bₜ b₁₁ b₁₂ : Bool} {u : Outcome} {d : DatedOutcome} → 1 ≤ u.number → u.number ≤ 4 → d.unfit_terms ≡ false → d.outcome ≡ u → Way bₜ b₁₁ b₁₂ u d
low {bₜ} {b₁₁} {b₁₂} {u} l h f e = by_none terms date show (below_11 u.number (omega arith)) f e
  where
    terms : TermsBy bₜ u.number → ⊥
    terms (terms_by t n) = omega (arith, n l)

    date : DateBy bₜ b₁₁ u.number → ⊥
    date (date_by t b n) = omega (arith, n l)

    show : ShowBy bₜ b₁₁ b₁₂ u.number → ⊥
    show (show_by t b c (inl q)) = omega (arith, q)
    show (show_by t b c (inr q)) = omega (arith, q)

module _ (m : ℕ) (o z : List ℕ) (f : Fault) (i : ℕ) (c : Change) where
  undated_5 : (b₁₄ b₆ b₉ b₁₀ : Bool) → NoneTo 5 (undated_of m o z f i c false false false false false b₁₄ b₆ b₉ b₁₀).number
  unfolding undated_of decided outcome answer_number
  undated_5 true b₆ b₉ b₁₀ l = omega arith
  undated_5 false true b₉ b₁₀ l = omega arith
  undated_5 false false true b₁₀ l = omega arith
  undated_5 false false false true l = omega arith
  undated_5 false false false false l = omega (arith, l)

  undated_4 : (b₅ b₁₄ b₆ b₉ b₁₀ : Bool) → NoneTo 4 (undated_of m o z f i c false false false false b₅ b₁₄ b₆ b₉ b₁₀).number
  unfolding undated_of decided outcome answer_number
  undated_4 true b₁₄ b₆ b₉ b₁₀ l = omega arith
  undated_4 false b₁₄ b₆ b₉ b₁₀ l = let h = undated_5 b₁₄ b₆ b₉ b₁₀ l in omega (arith, h)

  -- fit terms and a day that there is, but a slot off show: the undated read was refused before 10, or the slot is on show
  ends : {b₁₁ b₁₂ : Bool} {u : Outcome} {d : DatedOutcome} → (b₁₁ ≡ true → NoneTo 5 u.number → ⊥) → (b₁₂ ≡ true → (u.number ≡ 0) ⊎ (u.number ≡ 10) → ⊥) → Undated u.number
      → d.unfit_terms ≡ false → d.outcome ≡ u → Way false b₁₁ b₁₂ u d
  ends {b₁₁} {b₁₂} {u} p q = by_none terms date show
    where
      terms : TermsBy false u.number → ⊥
      terms (terms_by t n) = false≢true t

      date : DateBy false b₁₁ u.number → ⊥
      date (date_by t b n) = p b n

      show : ShowBy false b₁₁ b₁₂ u.number → ⊥
      show (show_by t b c w) = q c w

  neither : (n : ℕ) → 1 ≤ n → (n ≡ 10 → ⊥) → (n ≡ 0) ⊎ (n ≡ 10) → ⊥
  neither n l h (inl q) = omega (arith, q)
  neither n l h (inr q) = h q

  way : (b₁ b₂ b₃ b₄ bₜ b₅ b₁₁ b₁₄ b₆ b₉ b₁₂ b₁₀ : Bool)
      → Way bₜ b₁₁ b₁₂ (undated_of m o z f i c b₁ b₂ b₃ b₄ b₅ b₁₄ b₆ b₉ b₁₀) (dated_of m o z f i c b₁ b₂ b₃ b₄ bₜ b₅ b₁₁ b₁₄ b₆ b₉ b₁₂ b₁₀)
  unfolding undated_of dated_of decided outcome dated_outcome dated_number dated_length dated_point of_terms answer_number answer_length answer_point
  way true b₂ b₃ b₄ bₜ b₅ b₁₁ b₁₄ b₆ b₉ b₁₂ b₁₀ = low (lit≤ tt) (lit≤ tt) refl refl
  way false true b₃ b₄ bₜ b₅ b₁₁ b₁₄ b₆ b₉ b₁₂ b₁₀ = low (lit≤ tt) (lit≤ tt) refl refl
  way false false true b₄ bₜ b₅ b₁₁ b₁₄ b₆ b₉ b₁₂ b₁₀ = low (lit≤ tt) (lit≤ tt) refl refl
  way false false false true bₜ b₅ b₁₁ b₁₄ b₆ b₉ b₁₂ b₁₀ = low (lit≤ tt) (lit≤ tt) refl refl
  way false false false false true b₅ b₁₁ b₁₄ b₆ b₉ b₁₂ b₁₀ = by_terms (terms_by refl (undated_4 b₅ b₁₄ b₆ b₉ b₁₀)) refl refl
  way false false false false false true b₁₁ b₁₄ b₆ b₉ b₁₂ b₁₀ =
      ends (λ b n. omega (arith, n (lit≤ tt))) (λ b. neither 5 (lit≤ tt) (λ e. omega (arith, e))) (below_11 5 (lit≤ tt)) refl refl
  way false false false false false false true b₁₄ b₆ b₉ b₁₂ b₁₀ = by_date (date_by refl refl (undated_5 b₁₄ b₆ b₉ b₁₀)) refl refl
  way false false false false false false false true b₆ b₉ b₁₂ b₁₀ = ends (λ b n. false≢true b) (λ b. neither 14 (lit≤ tt) (λ e. omega (arith, e))) fourteen refl refl
  way false false false false false false false false true b₉ b₁₂ b₁₀ = ends (λ b n. false≢true b) (λ b. neither 6 (lit≤ tt) (λ e. omega (arith, e))) (below_11 6 (lit≤ tt)) refl refl
  way false false false false false false false false false true b₁₂ b₁₀ = ends (λ b n. false≢true b) (λ b. neither 9 (lit≤ tt) (λ e. omega (arith, e))) (below_11 9 (lit≤ tt)) refl refl
  way false false false false false false false false false false true true = by_show (show_by refl refl refl (inr refl)) refl refl
  way false false false false false false false false false false true false = by_show (show_by refl refl refl (inl refl)) refl refl
  way false false false false false false false false false false false true = ends (λ b n. false≢true b) (λ b w. false≢true b) (below_11 10 (lit≤ tt)) refl refl
  way false false false false false false false false false false false false = ends (λ b n. false≢true b) (λ b w. false≢true b) (below_11 0 (lit≤ tt)) refl refl

-- ---- what a way tells, and which way there is

of_undated : (o u : Outcome) → o ≡ u → Undated u.number → Undated o.number
of_undated o u g l = rw g l

module _ {bₜ b₁₁ b₁₂ : Bool} {u : Outcome} {d : DatedOutcome} where
  terms_then : d.unfit_terms ≡ true → Way bₜ b₁₁ b₁₂ u d → TermsBy bₜ u.number
  terms_then e (by_terms h f n) = h
  terms_then e (by_date h f n) = absurd (false≢true (sym f ∙ e))
  terms_then e (by_show h f n) = absurd (false≢true (sym f ∙ e))
  terms_then e (by_none p q r l f g) = absurd (false≢true (sym f ∙ e))

  number_then : d.unfit_terms ≡ true → Way bₜ b₁₁ b₁₂ u d → d.outcome.number ≡ 4
  number_then e (by_terms h f n) = n
  number_then e (by_date h f n) = absurd (false≢true (sym f ∙ e))
  number_then e (by_show h f n) = absurd (false≢true (sym f ∙ e))
  number_then e (by_none p q r l f g) = absurd (false≢true (sym f ∙ e))

  date_then : d.outcome.number ≡ 11 → Way bₜ b₁₁ b₁₂ u d → DateBy bₜ b₁₁ u.number
  date_then e (by_terms h f n) = absurd (omega (arith, e, n))
  date_then e (by_date h f n) = h
  date_then e (by_show h f n) = absurd (omega (arith, e, n))
  date_then e (by_none p q r l f g) = absurd ((of_undated _ _ g l).0 e)

  show_then : d.outcome.number ≡ 12 → Way bₜ b₁₁ b₁₂ u d → ShowBy bₜ b₁₁ b₁₂ u.number
  show_then e (by_terms h f n) = absurd (omega (arith, e, n))
  show_then e (by_date h f n) = absurd (omega (arith, e, n))
  show_then e (by_show h f n) = h
  show_then e (by_none p q r l f g) = absurd ((of_undated _ _ g l).1 e)

  then_terms : TermsBy bₜ u.number → Way bₜ b₁₁ b₁₂ u d → d.unfit_terms ≡ true
  then_terms h (by_terms g f n) = f
  then_terms (terms_by b n) (by_date (date_by c w x) f y) = absurd (false≢true (sym c ∙ b))
  then_terms (terms_by b n) (by_show (show_by c w x y) f z) = absurd (false≢true (sym c ∙ b))
  then_terms h (by_none p q r l f g) = absurd (p h)

  then_date : DateBy bₜ b₁₁ u.number → Way bₜ b₁₁ b₁₂ u d → d.outcome.number ≡ 11
  then_date (date_by b c n) (by_terms (terms_by w x) f y) = absurd (false≢true (sym b ∙ w))
  then_date h (by_date g f n) = n
  then_date (date_by b c n) (by_show (show_by w x y v) f z) = absurd (false≢true (sym x ∙ c))
  then_date h (by_none p q r l f g) = absurd (q h)

  then_show : ShowBy bₜ b₁₁ b₁₂ u.number → Way bₜ b₁₁ b₁₂ u d → d.outcome.number ≡ 12
  then_show (show_by b c n v) (by_terms (terms_by w x) f y) = absurd (false≢true (sym b ∙ w))
  then_show (show_by b c n v) (by_date (date_by w x y) f z) = absurd (false≢true (sym c ∙ x))
  then_show h (by_show g f n) = n
  then_show h (by_none p q r l f g) = absurd (r h)

  else_then : d.unfit_terms ≡ false → (d.outcome.number ≡ 11 → ⊥) → (d.outcome.number ≡ 12 → ⊥) → Way bₜ b₁₁ b₁₂ u d → d.outcome ≡ u
  else_then p q r (by_terms h f n) = absurd (false≢true (sym p ∙ f))
  else_then p q r (by_date h f n) = absurd (q n)
  else_then p q r (by_show h f n) = absurd (r n)
  else_then p q r (by_none h g v l f e) = e

-- ---- the same of a call

module _ (k : Keys) (s t : List ℕ) (i day : ℕ) (window : List ℕ) where
  abbrev unfit : Bool
  unfit = not (fit_terms (slots s) t)

  abbrev late : Bool
  late = ltb 36524 day

  abbrev off : Bool
  off = not (on_show (slots s) t i day)

  abbrev u : ℕ
  u = (reading k s i window).number

  the_way : Way unfit late off (reading k s i window) (dating k s t i day window)
  unfolding reading reading_with read_tests open_tests window_tests sheet_tests class_tests key_tests dating dating_with dated_tests undated undated_of dated_of
  the_way =
      let e = edition_of s in
      let x : Ciphers = loaded_for (key_class s) k in
      way (mark_length (mark e s i)) (opened x e s i) (zeros (length window)) (fault_of s) i (change x e s i) (wrong_keys k) (same k.sealing k.checking) (not (eqb (length window) 192)) (not (fit_in e s)) unfit (other_class k s) late (other_keys x e s) (leb (slots s) i) (blank_slot e s i) off (altered x e s i)

  fit_terms_lem : unfit ≡ false → MeetsTerms (slots s) t
  fit_terms_lem f = (reflects_terms (slots s) t).holds (not-false _ f)

  -- the three, in propositions and in tests
  says_terms : TermsBy unfit u → TermsRefuse k s t i day window
  says_terms (terms_by b n) = record { unfit = (reflects_not (reflects_terms (slots s) t)).holds b; undated = n }

  terms_said : TermsRefuse k s t i day window → TermsBy unfit u
  terms_said r = terms_by (reflects_yes (reflects_not (reflects_terms (slots s) t)) r.unfit) r.undated

  says_date : DateBy unfit late u → DateRefuses k s t i day window
  says_date (date_by b c n) = record { terms = fit_terms_lem b; late = (reflects_ltb 36524 day).holds c; undated = n }

  date_said : DateRefuses k s t i day window → DateBy unfit late u
  date_said r =
      date_by (reflects_no (reflects_not (reflects_terms (slots s) t)) (λ n. n r.terms)) (reflects_yes (reflects_ltb 36524 day) r.late) r.undated

  says_show : ShowBy unfit late off u → ShowRefuses k s t i day window
  says_show (show_by b c w n) =
      record {
        terms = fit_terms_lem b;
        in_time = ltb-false 36524 day c;
        off = (reflects_not (reflects_show (slots s) t i day)).holds w;
        undated = n;
      }

  show_said : ShowRefuses k s t i day window → ShowBy unfit late off u
  show_said r =
      show_by
      (reflects_no (reflects_not (reflects_terms (slots s) t)) (λ n. n r.terms))
      (reflects_no (reflects_ltb 36524 day) (λ l. omega (arith, l, r.in_time)))
      (reflects_yes (reflects_not (reflects_show (slots s) t i day)) r.off)
      r.undated

  pub beside : BesideUndated k s t i day window
  beside =
      record {
        unfit_terms = (λ e. says_terms (terms_then e the_way), λ r. then_terms (terms_said r) the_way);
        no_date = (λ e. says_date (date_then e the_way), λ r. then_date (date_said r) the_way);
        off_show = (λ e. says_show (show_then e the_way), λ r. then_show (show_said r) the_way);
        number_4 = λ e. number_then e the_way;
        else_undated = λ p q r. else_then p q r the_way;
      }
