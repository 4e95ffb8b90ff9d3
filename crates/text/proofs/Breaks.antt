-- Laws of the search for the place at which a text breaks, one for each way out of a function.
use Prim.Native.Nat.{ℕ, zero, suc, ◌+◌, ◌-◌, ◌≤◌, ◌<◌}
use mathlib.Core.Path.{◌≡◌, refl, sym, ap, ◌∙◌}
use mathlib.Core.Bool.{Bool, true, false}
use mathlib.Core.List.{List, [], ◌∷◌}
use native.Mathlib.Nat.{max-zero}
use native.Mathlib.Omega.{arith}
use Rattle.std.specs.Prelude.{Option, Some, None}
use lib.Dec.{eqb}
use lib.ListN.{length, get_or, drop, replicate, drop_of_length-le}
use Rattle.octets.specs.Bytes.{if◌then◌otherwise◌}
use Rattle.octets.proofs.Parts.{drop_next}
use Rattle.text.specs.Grammar.{Range, tail, inside}
use Rattle.text.specs.Place.{furthest, reached, broken_at}
use Rattle.text.specs.Steps.{following, second_low, second_high, second, ahead, onward, Left}
use Rattle.text.proofs.Grammar.{inside_low, inside_high}
use Rattle.text.proofs.Leads.{begun, leads, second_tail}

-- ---- a byte

low_least : (x : ℕ) → 0x80 ≤ second_low x
unfolding second_low
low_least x = go (eqb x 0xE0) (eqb x 0xF0)
  where
    go : (a b : Bool) → 0x80 ≤ (if a then 0xA0 otherwise if b then 0x90 otherwise 0x80)
    go true b = omega arith
    go false true = omega arith
    go false false = omega arith

high_most : (x : ℕ) → second_high x ≤ 0xBF
unfolding second_high
high_most x = go (eqb x 0xED) (eqb x 0xF4)
  where
    go : (a b : Bool) → (if a then 0x9F otherwise if b then 0x8F otherwise 0xBF) ≤ 0xBF
    go true b = omega arith
    go false true = omega arith
    go false false = omega arith

-- after a byte that isn't the first come tails
tails_ahead : (x y n : ℕ) → inside (second x) y ≡ true → ahead y n ≡ replicate n tail
unfolding ahead second
tails_ahead x y zero e = refl
tails_ahead x y (suc n) e =
    let l = inside_low (second_low x) (second_high x) y e in
    let h = inside_high (second_low x) (second_high x) y e in
    ap (λ (r : Range). r ∷ replicate n tail)
    (second_tail y (λ q. omega (arith, q, h, high_most x)) (λ q. omega (arith, q, h, high_most x)) (λ q. omega (arith, q, h, high_most x)) (λ q. omega (arith, q, h, high_most x)))

-- a first byte
furthest_begun : (y : ℕ) (s : List ℕ) (answer : Option ℕ) → furthest (begun y answer) (reached s) ≡ onward y s answer
unfolding furthest begun onward
furthest_begun y s None = refl
furthest_begun y s (Some m) = max-zero (suc (reached s (ahead y m)))

pub left_first : (n x y : ℕ) (answer : Option ℕ) → n ≡ 0 → y < 256 → answer ≡ following y → Left n x y answer
unfolding ahead reached
left_first n x y answer e h f =
    record {
      same = λ s. rw (e, f) (ap (λ (rows : List (List Range)). furthest rows (reached s)) (leads y h) ∙ furthest_begun y s (following y));
    }

-- a further byte
further : (x y n : ℕ) (b : Bool) → b ≡ inside (second x) y → (s : List ℕ) → reached (y ∷ s) (ahead x (suc n)) ≡ (if b then suc (reached s (replicate n tail)) otherwise 0)
unfolding ahead reached
further x y n b e s = rw e

module _ (n x y : ℕ) (b : Bool) (q : b ≡ inside (second x) y) where
  pub left_inside : (n ≡ 0 → ⊥) → b ≡ true → Left n x y (Some (n - 1))
  unfolding onward
  left_inside d t = go n d
    where
      go : (k : ℕ) → (k ≡ 0 → ⊥) → Left k x y (Some (k - 1))
      go zero d = absurd (d refl)
      go (suc k) d =
          let g : suc k - 1 ≡ k = omega arith in
          record { same = λ s. rw g (further x y k true (sym t ∙ q) s ∙ ap (λ (r : List Range). suc (reached s r)) (sym (tails_ahead x y k (sym q ∙ t)))) }

  pub left_outside : (n ≡ 0 → ⊥) → b ≡ false → Left n x y None
  unfolding onward
  left_outside d t = go n d
    where
      go : (k : ℕ) → (k ≡ 0 → ⊥) → Left k x y None
      go zero d = absurd (d refl)
      go (suc k) d = record { same = further x y k false (sym t ∙ q) }

-- ---- the bytes before place i, of which the last is x, can go on: n are left of a character

abbrev pub Reaches : List ℕ → ℕ → ℕ → ℕ → Type 0
Reaches s i n x = i + reached (drop i s) (ahead x n) ≡ broken_at s

pub reaches_none : (s : List ℕ) → Reaches s 0 0 0
unfolding ahead broken_at
reaches_none s = omega arith

module _ (s : List ℕ) (i n x : ℕ) (r : Reaches s i n x) where
  pub breaks_end : length s ≤ i → i ≤ length s → length s ≡ broken_at s
  breaks_end l h = go (drop_of_length-le s l)
    where
      go : drop i s ≡ [] → length s ≡ broken_at s
      go e = let z : reached (drop i s) (ahead x n) ≡ 0 = unfold reached in rw e in omega (arith, z, r)

  module _ (answer : Option ℕ) (l : i < length s) (f : Left n x (get_or s i 0) answer) where
    after_byte : i + onward (get_or s i 0) (drop (i + 1) s) answer ≡ broken_at s
    after_byte = ap (λ (k : ℕ). i + k) (sym (f.same (drop (i + 1) s))) ∙ ap (λ (t : List ℕ). i + reached t (ahead x n)) (sym (drop_next s i l)) ∙ r

    pub breaks_here : answer ≡ None → i ≡ broken_at s
    unfolding onward
    breaks_here e =
        let f : i + onward (get_or s i 0) (drop (i + 1) s) None ≡ broken_at s = ap (λ a. i + onward (get_or s i 0) (drop (i + 1) s) a) (sym e) ∙ after_byte in
        omega (arith, f)

    pub reaches_next : (m : ℕ) → answer ≡ Some m → Reaches s (i + 1) m (get_or s i 0)
    unfolding onward
    reaches_next m e =
        let f : i + onward (get_or s i 0) (drop (i + 1) s) (Some m) ≡ broken_at s = ap (λ a. i + onward (get_or s i 0) (drop (i + 1) s) a) (sym e) ∙ after_byte in
        omega (arith, f)
