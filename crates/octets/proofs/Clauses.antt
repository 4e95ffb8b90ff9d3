-- Tests that mean propositions, and a table of tests beside a list of clauses.
use Prim.Native.Nat.{ℕ, ◌≤◌, ◌<◌}
use mathlib.Core.Path.{◌≡◌, refl, sym, ◌∙◌, subst}
use mathlib.Core.Bool.{Bool, true, false, not, ◌&&◌, ◌||◌, false≢true}
use mathlib.Core.List.{List, [], ◌∷◌}
use mathlib.Core.Logic.{◌⊎◌, inl, inr}
use native.Mathlib.Omega.{arith}
use lib.Dec.{eqb, leb, ltb}
use borrow.Author.Tests.{eqb-true, eqb-false, leb-true, leb-false, ltb-true, ltb-false}
use Rattle.octets.specs.Bytes.{same}
use Rattle.octets.specs.Outcome.{Row, ◌gives◌, decided}
use Rattle.octets.specs.Clauses.{Clause, ◌when◌, Answers, Exactly, OneOf}
use Rattle.octets.proofs.Compare.{same_is, same_eq}

-- ---- a test and the proposition that it decides

pub record Reflects (t : Bool) (P : Type 0) : Type 0 where
  pub holds : t ≡ true → P
  pub fails : t ≡ false → P → ⊥

pub reflects_not : {t : Bool} {P : Type 0} → Reflects t P → Reflects (not t) (P → ⊥)
reflects_not {t = true} r = record { holds = λ e. absurd (false≢true e); fails = λ e n. n (r.holds refl) }
reflects_not {t = false} r = record { holds = λ e. r.fails refl; fails = λ e. absurd (false≢true (sym e)) }

pub reflects_and : {a b : Bool} {P Q : Type 0} → Reflects a P → Reflects b Q → Reflects (a && b) (P × Q)
reflects_and {a = true} r q = record { holds = λ e. (r.holds refl, q.holds e); fails = λ e h. q.fails e h.1 }
reflects_and {a = false} r q = record { holds = λ e. absurd (false≢true e); fails = λ e h. r.fails refl h.0 }

pub reflects_or : {a b : Bool} {P Q : Type 0} → Reflects a P → Reflects b Q → Reflects (a || b) (P ⊎ Q)
reflects_or {a = true} r q = record { holds = λ e. inl (r.holds refl); fails = λ e h. false≢true (sym e) }
reflects_or {a = false} {b} {P} {Q} r q = record { holds = λ e. inr (q.holds e); fails = fails }
  where
    fails : b ≡ false → P ⊎ Q → ⊥
    fails e (inl h) = r.fails refl h
    fails e (inr h) = q.fails e h

pub reflects_yes : {t : Bool} {P : Type 0} → Reflects t P → P → t ≡ true
reflects_yes {t = true} r p = refl
reflects_yes {t = false} r p = absurd (r.fails refl p)

pub reflects_no : {t : Bool} {P : Type 0} → Reflects t P → (P → ⊥) → t ≡ false
reflects_no {t = true} r n = absurd (n (r.holds refl))
reflects_no {t = false} r n = refl

-- one proposition in place of another
pub reflects_as : {t : Bool} {P Q : Type 0} → (P → Q) → (Q → P) → Reflects t P → Reflects t Q
reflects_as f g r = record { holds = λ e. f (r.holds e); fails = λ e q. r.fails e (g q) }

pub reflects_eqb : (a b : ℕ) → Reflects (eqb a b) (a ≡ b)
reflects_eqb a b = record { holds = eqb-true a b; fails = eqb-false a b }

pub reflects_leb : (a b : ℕ) → Reflects (leb a b) (a ≤ b)
reflects_leb a b = record { holds = leb-true a b; fails = λ e h. omega (arith, leb-false a b e) }

pub reflects_ltb : (a b : ℕ) → Reflects (ltb a b) (a < b)
reflects_ltb a b = record { holds = ltb-true a b; fails = λ e h. omega (arith, ltb-false a b e) }

pub reflects_same : (s t : List ℕ) → Reflects (same s t) (s ≡ t)
reflects_same s t = record { holds = same_is s t; fails = λ e h. false≢true (sym e ∙ same_eq s t h) }

-- n is one of three
pub reflects_three : (n a b c : ℕ) → Reflects (eqb n a || (eqb n b || eqb n c)) (OneOf (a ∷ b ∷ c ∷ []) n)
unfolding OneOf
reflects_three n a b c = reflects_or (reflects_eqb n a) (reflects_or (reflects_eqb n b) (reflects_eqb n c))

-- ---- answers

pub answers_same : (clauses : List Clause) (m n : ℕ) → Answers clauses m → Answers clauses n → m ≡ n
unfolding Answers
answers_same [] m n h g = h ∙ sym g
answers_same ((a when P) ∷ clauses) m n (inl h) (inl g) = h.1 ∙ sym g.1
answers_same ((a when P) ∷ clauses) m n (inl h) (inr g) = absurd (g.0 h.0)
answers_same ((a when P) ∷ clauses) m n (inr h) (inl g) = absurd (h.0 g.0)
answers_same ((a when P) ∷ clauses) m n (inr h) (inr g) = answers_same clauses m n h.1 g.1

-- a table beside clauses: each test means its proposition, where no test before applies, and gives its number
module _ {A : Type 0} (number : A → ℕ) where
  unfoldable pub Means : List (Row A) → List Clause → Type 0
  Means [] [] = Unit {0}
  Means [] (c ∷ clauses) = ⊥
  Means (r ∷ rows) [] = ⊥
  Means ((t gives a) ∷ rows) ((n when P) ∷ clauses) = Reflects t P × (number a ≡ n) × (t ≡ false → Means rows clauses)

  -- no row gives 0
  unfoldable pub Refuses : List (Row A) → Type 0
  Refuses [] = Unit {0}
  Refuses ((t gives a) ∷ rows) = (number a ≡ 0 → ⊥) × Refuses rows

  module _ {B : Type 0} (of : B → ℕ) (x : B) (f : A → B) (zero : of x ≡ 0) (same_number : (a : A) → of (f a) ≡ number a) where
    decided_answers : (rows : List (Row A)) (clauses : List Clause) → Means rows clauses → Answers clauses (of (decided rows x f))
    unfolding Means Answers decided
    decided_answers [] [] h = zero
    decided_answers [] (c ∷ clauses) h = absurd h
    decided_answers (r ∷ rows) [] h = absurd h
    decided_answers ((true gives a) ∷ rows) ((n when P) ∷ clauses) h = inl (h.0.holds refl, same_number a ∙ h.1)
    decided_answers ((false gives a) ∷ rows) ((n when P) ∷ clauses) h = inr (h.0.fails refl, decided_answers rows clauses (h.2 refl))

    -- a call's number is exactly that of the clauses
    pub decided_exactly : (rows : List (Row A)) (clauses : List Clause) → Means rows clauses → Exactly (of (decided rows x f)) clauses
    decided_exactly rows clauses h =
        record {
          answers = λ n. (λ e. subst (Answers clauses) e (decided_answers rows clauses h), answers_same clauses _ n (decided_answers rows clauses h));
        }

    -- what is known of every refusal is known of a call that answers another number than 0
    pub decided_refused : (Q : B → Type 0) → ((a : A) → (number a ≡ 0 → ⊥) → Q (f a)) → (rows : List (Row A)) → (of (decided rows x f) ≡ 0 → ⊥) → Q (decided rows x f)
    unfolding decided
    decided_refused Q q [] h = absurd (h zero)
    decided_refused Q q ((true gives a) ∷ rows) h = q a (λ e. h (same_number a ∙ e))
    decided_refused Q q ((false gives a) ∷ rows) h = decided_refused Q q rows h

    -- what is known of the accepted outcome is known of a call that answers 0, where every row refuses
    pub decided_zero : (Q : B → Type 0) → Q x → (rows : List (Row A)) → Refuses rows → of (decided rows x f) ≡ 0 → Q (decided rows x f)
    unfolding decided Refuses
    decided_zero Q q [] r h = q
    decided_zero Q q ((true gives a) ∷ rows) r h = absurd (r.0 (sym (same_number a) ∙ h))
    decided_zero Q q ((false gives a) ∷ rows) r h = decided_zero Q q rows r.1 h
