-- Laws of the code, one for each way out of a function.
use Prim.Native.Nat.{ℕ, zero, suc, ◌+◌, ◌-◌, ◌≤◌, ◌<◌}
use mathlib.Core.Path.{◌≡◌, refl, sym, ap, ◌∙◌, subst}
use mathlib.Core.Bool.{Bool, true, false, ◌&&◌, ◌||◌}
use mathlib.Core.List.{List, [], ◌∷◌, ◌++◌}
use mathlib.Core.Logic.{◌⊎◌, inl, inr}
use native.Mathlib.Omega.{arith}
use lib.Bits.{bit_or}
use lib.ListN.{length, get_or, take, drop, length-drop, length-replicate}
use borrow.Author.Count.{below_more}
use Rattle.std.specs.Prelude.{Option, Some, None}
use Rattle.std.proofs.lemmas.Nat.{le_or_l, le_or_r}
use Rattle.std.proofs.lemmas.List.{take-append-drop, take_all, get_or-replicate}
use Rattle.octets.proofs.Bool.{and_false_left, and_false_right}
use Rattle.text.specs.Grammar.{Range, tail, inside, some, meets, well_formed}
use Rattle.text.specs.Steps.{following, second, ahead, Passes}
use Rattle.text.proofs.Leads.{begun, leads, follows_one, follows_few}

-- ---- a character by its first byte

or_false : (b : Bool) → b || false ≡ b
or_false true = refl
or_false false = refl

module _ (x : ℕ) (s : List ℕ) (h : x < 256) where
  by_rows : (n : Option ℕ) → n ≡ following x → well_formed (x ∷ s) ≡ some (begun x n) (meets s)
  unfolding well_formed meets
  by_rows n e = ap (λ r. some r (meets s)) (leads x h) ∙ ap (λ m. some (begun x m) (meets s)) (sym e)

  pub by_none : None ≡ following x → well_formed (x ∷ s) ≡ false
  unfolding some begun
  by_none e = by_rows None e

  by_ahead : (n : ℕ) → Some n ≡ following x → well_formed (x ∷ s) ≡ meets s (ahead x n)
  unfolding some begun
  by_ahead n e = by_rows (Some n) e ∙ or_false (meets s (ahead x n))

by_one : (x : ℕ) (s : List ℕ) → x < 0x80 → well_formed (x ∷ s) ≡ well_formed s
unfolding ahead well_formed
by_one x s h = by_ahead x s (omega arith) 0 (follows_one x h)

-- ---- bytes that lie in ranges

-- fewer than the ranges, or one outside its range
meets_short : (s : List ℕ) (ranges : List Range) → length s < length ranges → meets s ranges ≡ false
unfolding meets
meets_short s [] h = absurd (omega arith)
meets_short [] (r ∷ ranges) h = refl
meets_short (x ∷ s) (r ∷ ranges) h = and_false_right (inside r x) (meets s ranges) (meets_short s ranges (omega arith))

meets_outside : (s : List ℕ) (ranges : List Range) (k : ℕ) → k < length s → k < length ranges → inside (get_or ranges k tail) (get_or s k 0) ≡ false → meets s ranges ≡ false
unfolding meets
meets_outside [] ranges k l h e = absurd (omega arith)
meets_outside (x ∷ s) [] k l h e = absurd (omega arith)
meets_outside (x ∷ s) (r ∷ ranges) zero l h e = and_false_left (inside r x) (meets s ranges) e
meets_outside (x ∷ s) (r ∷ ranges) (suc k) l h e = and_false_right (inside r x) (meets s ranges) (meets_outside s ranges k (omega arith) (omega arith) e)

length_ahead : (x n : ℕ) → length (ahead x n) ≡ n
unfolding ahead
length_ahead x zero = refl
length_ahead x (suc n) = ap suc (length-replicate n tail)

-- the first is the one after x, and the further ones are those of tails
ahead_first : (x n : ℕ) → 1 ≤ n → get_or (ahead x n) 0 tail ≡ second x
unfolding ahead
ahead_first x zero h = absurd (omega arith)
ahead_first x (suc n) h = refl

ahead_further : (x n k : ℕ) → suc k < n → get_or (ahead x n) (suc k) tail ≡ tail
unfolding ahead
ahead_further x zero k h = absurd (omega arith)
ahead_further x (suc n) k h = get_or-replicate n k tail tail (omega arith)

-- ---- a character of more than one byte that stops short

module _ (x : ℕ) (s : List ℕ) (h : x < 256) (n : ℕ) (e : Some n ≡ following x) where
  pub cut_off : length s < n → well_formed (x ∷ s) ≡ false
  cut_off l = by_ahead x s h n e ∙ meets_short s (ahead x n) (omega (arith, length_ahead x n))

  outside : (k : ℕ) → k < n → k < length s → inside (get_or (ahead x n) k tail) (get_or s k 0) ≡ false → well_formed (x ∷ s) ≡ false
  outside k i l f = by_ahead x s h n e ∙ meets_outside s (ahead x n) k l (omega (arith, length_ahead x n)) f

  pub second_outside : 1 ≤ n → 1 ≤ length s → false ≡ inside (second x) (get_or s 0 0) → well_formed (x ∷ s) ≡ false
  second_outside i l f = outside 0 (omega arith) (omega arith) (rw (ahead_first x n i) (sym f))

  pub third_outside : 2 ≤ n → 2 ≤ length s → false ≡ inside tail (get_or s 1 0) → well_formed (x ∷ s) ≡ false
  third_outside i l f = outside 1 (omega arith) (omega arith) (rw (ahead_further x n 0 (omega arith)) (sym f))

  pub fourth_outside : 3 ≤ n → 3 ≤ length s → false ≡ inside tail (get_or s 2 0) → well_formed (x ∷ s) ≡ false
  fourth_outside i l f = outside 2 (omega arith) (omega arith) (rw (ahead_further x n 1 (omega arith)) (sym f))

-- as many bytes follow as there are cases for
pub no_other : (x : ℕ) (s : List ℕ) (n : ℕ) → 0x80 ≤ x → Some n ≡ following x → (n ≡ 1 → ⊥) → (n ≡ 2 → ⊥) → (n ≡ 3 → ⊥) → well_formed (x ∷ s) ≡ false
no_other x s n h e a b c = absurd (omega (arith, a, b, c, (follows_few x n h e).0, (follows_few x n h e).1))

-- ---- a character of more than one byte that is passed

rest_of : (k : ℕ) (s : List ℕ) → take (length s - k) (drop k s) ≡ drop k s
rest_of k s = take_all (length s - k) (drop k s) (omega (arith, length-drop k s))

passes_rest : (x : ℕ) (s : List ℕ) (k : ℕ) → k ≤ length s → well_formed (x ∷ s) ≡ well_formed (drop k s) → Passes (x ∷ s) (take (length s - k) (drop k s))
passes_rest x s k l e = rw (rest_of k s) (record { shorter = omega (arith, length-drop k s); same = sym e })

-- the bytes ahead of one, two and three
ahead_two : (x : ℕ) (s : List ℕ) → 1 ≤ length s → meets s (ahead x 1) ≡ inside (second x) (get_or s 0 0) && well_formed (drop 1 s)
unfolding meets ahead well_formed
ahead_two x [] l = absurd (omega arith)
ahead_two x (y ∷ s) l = refl

ahead_three : (x : ℕ) (s : List ℕ) → 2 ≤ length s → meets s (ahead x 2) ≡ inside (second x) (get_or s 0 0) && (inside tail (get_or s 1 0) && well_formed (drop 2 s))
unfolding meets ahead well_formed
ahead_three x [] l = absurd (omega arith)
ahead_three x (y ∷ []) l = absurd (omega arith)
ahead_three x (y ∷ z ∷ s) l = refl

ahead_four : (x : ℕ) (s : List ℕ) → 3 ≤ length s
    → meets s (ahead x 3) ≡ inside (second x) (get_or s 0 0) && (inside tail (get_or s 1 0) && (inside tail (get_or s 2 0) && well_formed (drop 3 s)))
unfolding meets ahead well_formed
ahead_four x [] l = absurd (omega arith)
ahead_four x (y ∷ []) l = absurd (omega arith)
ahead_four x (y ∷ z ∷ []) l = absurd (omega arith)
ahead_four x (y ∷ z ∷ w ∷ s) l = refl

module _ (x : ℕ) (s : List ℕ) (h : x < 256) (n : ℕ) (e : Some n ≡ following x) (a : true ≡ inside (second x) (get_or s 0 0)) where
  by_number : (k : ℕ) → n ≡ k → well_formed (x ∷ s) ≡ meets s (ahead x k)
  by_number k q = by_ahead x s h n e ∙ ap (λ m. meets s (ahead x m)) q

  pub passes_two : n ≡ 1 → 1 ≤ length s → Passes (x ∷ s) (take (length s - 1) (drop 1 s))
  passes_two q l = passes_rest x s 1 l (by_number 1 q ∙ ahead_two x s l ∙ rw (← a))

  module _ (b : true ≡ inside tail (get_or s 1 0)) where
    pub passes_three : n ≡ 2 → 2 ≤ length s → Passes (x ∷ s) (take (length s - 2) (drop 2 s))
    passes_three q l = passes_rest x s 2 l (by_number 2 q ∙ ahead_three x s l ∙ rw (← a, ← b))

    pub passes_four : true ≡ inside tail (get_or s 2 0) → n ≡ 3 → 3 ≤ length s → Passes (x ∷ s) (take (length s - 3) (drop 3 s))
    passes_four c q l = passes_rest x s 3 l (by_number 3 q ∙ ahead_four x s l ∙ rw (← a, ← b, ← c))

-- ---- characters of one byte

-- bytes gathered in x: none of them is above it
pub gathered_next : (s : List ℕ) (i x : ℕ) → ((k : ℕ) → k < i → get_or s k 0 ≤ x) → (k : ℕ) → k < i + 1 → get_or s k 0 ≤ bit_or x (get_or s i 0)
gathered_next s i x f =
    below_more (λ k. get_or s k 0 ≤ bit_or x (get_or s i 0)) i (λ k h. omega (arith, f k h, le_or_l x (get_or s i 0))) (le_or_r x (get_or s i 0))

well_formed_block : (s t : List ℕ) → ((k : ℕ) → k < length s → get_or s k 0 < 0x80) → well_formed (s ++ t) ≡ well_formed t
well_formed_block [] t f = refl
well_formed_block (x ∷ s) t f = by_one x (s ++ t) (f 0 (omega arith)) ∙ well_formed_block s t (λ k h. f (suc k) (omega arith))

-- ---- what is passed

pub passes_then : (s r t : List ℕ) → Passes s r → Passes r t → Passes s t
passes_then s r t p q = record { shorter = omega (arith, p.shorter, q.shorter); same = q.same ∙ p.same }

pub passes_first : (s : List ℕ) → 1 ≤ length s → get_or s 0 0 < 0x80 → Passes s (take (length s - 1) (drop 1 s))
passes_first [] l h = absurd (omega arith)
passes_first (x ∷ s) l h = rw (rest_of 1 (x ∷ s)) (record { shorter = omega arith; same = sym (by_one x s h) })

pub passes_block : (s block rest : List ℕ) → block ≡ take 32 s → rest ≡ drop 32 s → 32 ≤ length s → ((k : ℕ) → k < length block → get_or block k 0 < 0x80) → Passes s rest
passes_block s block rest p q l f =
    record { shorter = omega (arith, ap length q, length-drop 32 s); same = sym (well_formed_block block rest f) ∙ ap well_formed (rw (p, q) (take-append-drop 32 s)) }

-- ---- the beginning of s, up to rest, is passed

abbrev pub Passed : List ℕ → List ℕ → Type 0
Passed s rest = (rest ≡ s) ⊎ Passes s rest

pub passed_more : (s r t : List ℕ) → Passed s r → Passes r t → Passed s t
passed_more s r t (inl e) p = inr (subst (λ u. Passes u t) e p)
passed_more s r t (inr q) p = inr (passes_then s r t q p)

-- a text from its first byte on
first_and_rest : (s : List ℕ) → 1 ≤ length s → get_or s 0 0 ∷ take (length s - 1) (drop 1 s) ≡ s
first_and_rest [] l = absurd (omega arith)
first_and_rest (x ∷ s) l = ap (λ t. x ∷ t) (rest_of 1 (x ∷ s))

module _ (s rest : List ℕ) (e : well_formed rest ≡ well_formed s) where
  pub passed_next : (r : List ℕ) → 1 ≤ length rest → Passes (get_or rest 0 0 ∷ take (length rest - 1) (drop 1 rest)) r → well_formed r ≡ well_formed s
  passed_next r l p = p.same ∙ ap well_formed (first_and_rest rest l) ∙ e

  pub passed_broken : 1 ≤ length rest → well_formed (get_or rest 0 0 ∷ take (length rest - 1) (drop 1 rest)) ≡ false → false ≡ well_formed s
  passed_broken l f = sym f ∙ ap well_formed (first_and_rest rest l) ∙ e

  pub passed_all : length rest < 1 → true ≡ well_formed s
  unfolding well_formed meets
  passed_all h = go rest h e
    where
      go : (t : List ℕ) → length t < 1 → well_formed t ≡ well_formed s → true ≡ well_formed s
      go [] h e = e
      go (x ∷ t) h e = absurd (omega arith)
