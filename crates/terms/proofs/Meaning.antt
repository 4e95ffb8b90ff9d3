-- The tests of a term sheet mean its rules.
use Prim.Native.Nat.{ℕ, ◌+◌, ◌*◌, ◌≤◌, ◌<◌}
use mathlib.Core.Path.{◌≡◌, refl, sym, ◌∙◌}
use mathlib.Core.Bool.{Bool, true, false, false≢true}
use mathlib.Core.List.{List}
use mathlib.Core.Logic.{◌↔◌}
use native.Mathlib.Omega.{arith}
use lib.Dec.{leb}
use lib.ListN.{length}
use borrow.Author.Tests.{leb-true, le-leb}
use Rattle.octets.specs.Bytes.{all_below}
use Rattle.octets.proofs.Clauses.{Reflects, reflects_and, reflects_as, reflects_eqb, reflects_leb}
use Rattle.octets.proofs.Compare.{all_below_true, all_below_at}
use Rattle.terms.specs.Terms.{count, opening, closing, fit_terms, on_show}
use Rattle.terms.specs.Rules.{MeetsTerms, OnShow}

-- each of n numbers is at most a bound
reflects_each : (n b : ℕ) (f : ℕ → ℕ) → Reflects (all_below n (λ i. leb (f i) b)) ((i : ℕ) → i < n → f i ≤ b)
reflects_each n b f =
    record {
      holds = λ e i l. leb-true (f i) b (all_below_at (λ i. leb (f i) b) n i e l);
      fails = λ e h. false≢true (sym e ∙ all_below_true (λ i. leb (f i) b) n (λ i l. le-leb (f i) b (h i l)));
    }

pub reflects_terms : (n : ℕ) (t : List ℕ) → Reflects (fit_terms n t) (MeetsTerms n t)
unfolding fit_terms
reflects_terms n t =
    reflects_as
    (λ h. record { same_count = h.0; size = h.1.0; openings = h.1.1.0; closings = h.1.1.1 })
    (λ m. (m.same_count, (m.size, (m.openings, m.closings))))
    (reflects_and (reflects_eqb (count t) n)
    (reflects_and (reflects_eqb (length t) (2 + 4 * n))
    (reflects_and (reflects_each n 36524 (opening t)) (reflects_each n 36524 (closing n t)))))

pub reflects_show : (n : ℕ) (t : List ℕ) (i day : ℕ) → Reflects (on_show n t i day) (OnShow n t i day)
unfolding on_show
reflects_show n t i day =
    reflects_as (λ h. record { from = h.0; to = h.1 }) (λ o. (o.from, o.to)) (reflects_and (reflects_leb (opening t i) day) (reflects_leb day (closing n t i)))

-- the same written out
pub meets_plain : (n : ℕ) (t : List ℕ) → MeetsTerms n t
    ↔ ((count t ≡ n) × (length t ≡ 2 + 4 * n) × ((i : ℕ) → i < n → (opening t i ≤ 36524) × (closing n t i ≤ 36524)))
meets_plain n t = (
  λ m. (m.same_count, m.size, λ i l. (m.openings i l, m.closings i l)),
  λ h. record { same_count = h.0; size = h.1; openings = λ i l. (h.2 i l).0; closings = λ i l. (h.2 i l).1 },
)

pub never : (n : ℕ) (t : List ℕ) (i day : ℕ) → closing n t i < opening t i → on_show n t i day ≡ false
never n t i day l = go (on_show n t i day) refl
  where
    go : (b : Bool) → on_show n t i day ≡ b → on_show n t i day ≡ false
    go true q = let o = (reflects_show n t i day).holds q in absurd (omega (arith, o.from, o.to))
    go false q = q
