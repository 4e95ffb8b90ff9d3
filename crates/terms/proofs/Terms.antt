-- Laws of a term sheet, one for each way out of a function that decides it.
use mathlib.Core.Path.{◌≡◌, refl, sym, ap, ap₂, ◌∙◌}
use mathlib.Core.Bool.{Bool, true, false, ◌&&◌, and_assoc, and-true}
use mathlib.Core.List.{List}
use Prim.Native.Nat.{ℕ, zero, suc, ◌+◌, ◌*◌, ◌≤◌, ◌<◌}
use native.Mathlib.Numerals.{unary_clauses}
use native.Mathlib.Omega.{arith}
use borrow.Author.Tests.{le-leb, lt-leb}
use lib.Dec.{leb}
use lib.ListN.{length}
use Rattle.octets.specs.Bytes.{number, part, all_below}
use Rattle.octets.proofs.Compare.{all_below_next, all_below_stop}
use Rattle.terms.specs.Terms.{opening, closing, on_show}
use Rattle.terms.specs.Inner.{day_fits, TermsOf}

-- ---- the scan over all days

pub day_inside : (t : List ℕ) (n j : ℕ) → TermsOf t n → j < n + n → 2 + 2 * j + 2 ≤ length t
day_inside t n j g l = omega (arith, g.size)

pub day_read : (t : List ℕ) (j x : ℕ) → x ≡ number (part t (2 + 2 * j) 2) → leb x 36524 ≡ day_fits t j
unfolding day_fits
day_read t j x e = rw e

-- r is what was found of day j
module _ (t : List ℕ) (n j : ℕ) (r : Bool) (e : r ≡ day_fits t j) where
  pub days_stop : j < n + n → r ≡ false → false ≡ all_below (n + n) (day_fits t)
  days_stop l h = sym (all_below_stop (day_fits t) (n + n) j l (sym e ∙ h))

  pub days_next : all_below j (day_fits t) ≡ true → r ≡ true → all_below (j + 1) (day_fits t) ≡ true
  days_next h f = all_below_next (day_fits t) j h (sym e ∙ f)

pub days_end : (t : List ℕ) (n j : ℕ) → all_below j (day_fits t) ≡ true → j ≤ n + n → n + n ≤ j → true ≡ all_below (n + n) (day_fits t)
days_end t n j e l h = sym (ap (λ (m : ℕ). all_below m (day_fits t)) {x = n + n} {y = j} (omega arith) ∙ e)

-- the first n of the n + m days, and then m
all_below_split : (p : ℕ → Bool) (n m : ℕ) → all_below (n + m) p ≡ all_below n p && all_below m (λ i. p (n + i))
unfolding all_below
all_below_split p n zero = simp unary_clauses (sym (and-true (all_below n p)))
all_below_split p n (suc m) =
    simp unary_clauses (ap (λ b. b && p (n + m)) (all_below_split p n m) ∙ and_assoc (all_below n p) (all_below m (λ i. p (n + i))) (p (n + m)))

all_below_same : (p q : ℕ → Bool) (n : ℕ) → ((i : ℕ) → p i ≡ q i) → all_below n p ≡ all_below n q
unfolding all_below
all_below_same p q zero e = refl
all_below_same p q (suc n) e = ap₂ (λ a b. a && b) (all_below_same p q n e) (e n)

-- all days are the openings and the closings
pub days_all : (t : List ℕ) (n : ℕ)
    → all_below (n + n) (day_fits t) ≡ all_below n (λ i. leb (opening t i) 36524) && all_below n (λ i. leb (closing n t i) 36524)
unfolding day_fits opening closing
days_all t n =
    all_below_split (day_fits t) n n
    ∙ ap (λ b. all_below n (day_fits t) && b)
    (all_below_same (λ i. day_fits t (n + i)) _ n (λ i. ap (λ (a : ℕ). leb (number (part t a 2)) 36524) {x = 2 + 2 * (n + i)} {y = 2 + 2 * n + 2 * i} (omega arith)))

-- ---- a slot's days

module _ (t : List ℕ) (n : ℕ) (i : ℕ) (g : TermsOf t n) (l : i < n) where
  pub opening_inside : 2 + 2 * i + 2 ≤ length t
  opening_inside = omega (arith, g.size)

  pub closing_inside : 2 + 2 * n + 2 * i + 2 ≤ length t
  closing_inside = omega (arith, g.size)

pub opening_read : (t : List ℕ) (i x : ℕ) → x ≡ number (part t (2 + 2 * i) 2) → x ≡ opening t i
unfolding opening
opening_read t i x e = e

pub closing_read : (t : List ℕ) (n i x : ℕ) → x ≡ number (part t (2 + 2 * n + 2 * i) 2) → x ≡ closing n t i
unfolding closing
closing_read t n i x e = e

-- x and y are the opening and the closing day that were read
module _ (t : List ℕ) (n i day x : ℕ) (e : x ≡ opening t i) where
  pub show_early : day < x → leb x day ≡ on_show n t i day
  unfolding on_show
  show_early h = rw (← e, lt-leb x day h)

  pub show_closing : x ≤ day → (y : ℕ) → y ≡ closing n t i → leb day y ≡ on_show n t i day
  unfolding on_show
  show_closing h y f = rw (← e, le-leb x day h, f)
