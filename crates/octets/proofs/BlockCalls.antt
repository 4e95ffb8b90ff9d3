-- The outcome of a call on one block, by the tests that the code makes, and that it answers by its clauses.
use Rattle.std.specs.Prelude.{Ok, Err}
use mathlib.Core.Path.{◌≡◌, refl, ap, ◌∙◌}
use mathlib.Core.Bool.{Bool, true, false}
use mathlib.Core.List.{List}
use Prim.Native.Nat.{ℕ}
use native.Mathlib.Omega.{arith}
use lib.ListN.{length}
use borrow.Author.Tests.{eq-eqb, ne_eqb}
use Rattle.octets.specs.Outcome.{Outcome, decided}
use Rattle.octets.specs.Clauses.{OneOf}
use Rattle.octets.specs.declared.BlockError.TheVariants.{WrongKey, WrongSpan}
use Rattle.octets.specs.BlockCalls.{error_number, block_outcome, block_tests, block_call, block_clauses, Leaves, Refusals}
use Rattle.octets.proofs.Clauses.{Reflects, reflects_not, reflects_and, reflects_eqb, Means, Refuses, decided_exactly, decided_refused, decided_zero}

-- ---- the ways out of the code

module _ (has_key : ℕ → Bool) (k b out new : List ℕ) (r : Bool) (e : r ≡ has_key (length k)) where
  pub wrong_key_lem : r ≡ false → block_outcome (Err WrongKey) out ≡ block_call has_key k b out new
  unfolding block_call block_tests decided
  wrong_key_lem h = rw (← e, h)

  pub wrong_block : r ≡ true → (length b ≡ 8 → ⊥) → block_outcome (Err WrongSpan) out ≡ block_call has_key k b out new
  unfolding block_call block_tests decided
  wrong_block h p = rw (← e, h, ne_eqb (length b) 8 p)

  pub wrong_output : r ≡ true → length b ≡ 8 → (length out ≡ 8 → ⊥) → block_outcome (Err WrongSpan) out ≡ block_call has_key k b out new
  unfolding block_call block_tests decided
  wrong_output h p q = rw (← e, h, eq-eqb (length b) 8 p, ne_eqb (length out) 8 q)

  pub accepted : r ≡ true → length b ≡ 8 → length out ≡ 8 → {o : Outcome} {c : List ℕ} → o ≡ block_outcome (Ok tt) c → c ≡ new → o ≡ block_call has_key k b out new
  unfolding block_call block_tests decided
  accepted h p q f g = f ∙ ap (block_outcome (Ok tt)) g ∙ rw (← e, h, eq-eqb (length b) 8 p, eq-eqb (length out) 8 q)

-- ---- the clauses, for any test that decides whether a length is one of a list

module _ (lengths : List ℕ) (has_key : ℕ → Bool) (reflects : (n : ℕ) → Reflects (has_key n) (OneOf lengths n)) where
  call_means : (k b out : List ℕ) → Means error_number (block_tests has_key k b out) (block_clauses lengths k b out)
  unfolding Means block_tests block_clauses
  call_means k b out = (
    reflects_not (reflects (length k)),
    refl,
    λ t₁.
        (reflects_not (reflects_and (reflects_eqb (length b) 8) (reflects_eqb (length out) 8)), refl, λ t₃. tt),
  )

  pub refusals : (made : List ℕ → List ℕ → List ℕ) → Refusals lengths (λ k b out. block_call has_key k b out (made k b)) made
  unfolding block_call block_tests block_outcome Refuses
  refusals made =
      record {
        exactly = λ k b out. decided_exactly error_number (λ (o : Outcome). o.number) _ _ refl (λ a. refl) _ _ (unfold block_tests in call_means k b out);
        refused = λ k b out. decided_refused error_number (λ (o : Outcome). o.number) _ _ refl (λ a. refl) (λ o. Leaves o out) (λ a h. record { len = refl; bytes_are = refl }) _;
        accepted = λ k b out. decided_zero error_number (λ (o : Outcome). o.number) _ _ refl (λ a. refl) (λ o. Leaves o (made k b)) (record { len = refl; bytes_are = refl }) _
            (λ e. omega (arith, e), ((λ e. omega (arith, e)), tt));
      }
