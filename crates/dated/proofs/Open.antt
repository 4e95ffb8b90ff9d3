-- A dated read on a day that the slot's term has, and terms that are always open.
use Prim.Native.Nat.{ℕ, zero, suc, ◌≤◌, ◌<◌}
use mathlib.Core.Path.{◌≡◌, refl, sym, ◌∙◌}
use mathlib.Core.Bool.{Bool, true, false}
use mathlib.Core.List.{List}
use native.Mathlib.Omega.{arith}
use lib.ListN.{length, get_or, replicate, length-replicate, get_or-replicate}
use Rattle.layout.specs.Layout.{slots}
use Rattle.layout.specs.Rules.{MeetsLayout}
use Rattle.layout.proofs.Meaning.{meets_few}
use Rattle.captions.specs.Captions.{Keys}
use Rattle.captions.specs.Calls.{reading}
use Rattle.terms.specs.Terms.{opening, closing}
use Rattle.terms.specs.Rules.{MeetsTerms, OnShow}
use Rattle.terms.specs.Laws.{Days}
use Rattle.terms.proofs.Store.{stored}
use Rattle.terms.proofs.Meaning.{reflects_terms}
use Rattle.terms.proofs.Plain.{show_plain}
use Rattle.dated.specs.Calls.{dating}
use Rattle.dated.specs.Laws.{always_open}
use Rattle.dated.proofs.Beside.{beside}

most : (n v i : ℕ) → get_or (replicate n v) i 0 ≤ v
most zero v i = omega arith
most (suc n) v zero = omega arith
most (suc n) v (suc i) = most n v i

size : (n v : ℕ) → length (replicate n v) ≡ n
size n v = length-replicate n v

not_terms : {b : Bool} → (b ≡ true → ⊥) → b ≡ false
not_terms {b = true} n = absurd (n refl)
not_terms {b = false} n = refl

module _ (n : ℕ) (f : n ≤ 256) where
  days : Days (replicate n 0) (replicate n 36524)
  days =
      record {
        as_many = size n 36524 ∙ sym (size n 0);
        few = omega (arith, size n 0);
        opening_days = λ i. omega (arith, most n 0 i);
        closing_days = most n 36524;
      }

  always_fit : MeetsTerms n (always_open n)
  unfolding always_open
  always_fit = (reflects_terms n _).holds (rw (size n 0) at (stored _ _ days).fits)

  always_shown : (i day : ℕ) → i < n → day ≤ 36524 → OnShow n (always_open n) i day
  unfolding always_open
  always_shown i day l h =
      let l' : i < length {A = ℕ} (replicate n 0) = omega (arith, size n 0) in
      let c = rw (size n 0) at ((stored _ _ days).closes i l') in
      record { from = omega (arith, (stored _ _ days).opens i l', get_or-replicate {A = ℕ} n i 0 0 l); to = omega (arith, c, get_or-replicate {A = ℕ} n i 36524 0 l) }

-- a day that the slot's term has
module _ (k : Keys) (s t : List ℕ) (i day : ℕ) (window : List ℕ) (m : MeetsTerms (slots s) t) (h : day ≤ 36524) where
  in_show : OnShow (slots s) t i day → (dating k s t i day window).outcome ≡ reading k s i window
  in_show o =
      let b = beside k s t i day window in
      b.else_undated
      (not_terms (λ e. (b.unfit_terms.0 e).unfit m))
      (λ e. let r = b.no_date.0 e in omega (arith, r.late))
      (λ e. (b.off_show.0 e).off o)

  pub in_term : opening t i ≤ day → day ≤ closing (slots s) t i → (dating k s t i day window).outcome ≡ reading k s i window
  in_term a b = in_show ((show_plain (slots s) t i day).1 (a, b))

  pub one_day : opening t i ≡ day → closing (slots s) t i ≡ day → (dating k s t i day window).outcome ≡ reading k s i window
  one_day a b = in_term (omega (arith, a)) (omega (arith, b))

pub opened : (k : Keys) (s : List ℕ) (i day : ℕ) (window : List ℕ) → MeetsLayout s → i < slots s → day ≤ 36524
    → (dating k s (always_open (slots s)) i day window).outcome ≡ reading k s i window
opened k s i day window m l h =
    let f = meets_few m in
    in_show k s (always_open (slots s)) i day window (always_fit (slots s) f) h (always_shown (slots s) f i day l h)
