-- The slots in their order: each that is shown stands there once and no other does, and of any two the first comes before.
use Prim.Native.Nat.{ℕ, zero, suc, ◌+◌, ◌%◌, ◌≤◌, ◌<◌}
use mathlib.Core.Path.{◌≡◌, refl, sym, ap, ◌∙◌}
use mathlib.Core.Bool.{Bool, true, false}
use mathlib.Core.List.{List, [], ◌∷◌, ◌++◌, map}
use native.Mathlib.Decide.{dec_lt}
use native.Mathlib.Omega.{arith}
use borrow.Author.Tests.{eq-eqb, ne_eqb}
use lib.Dec.{eqb, leb}
use lib.ListN.{length, get_or}
use Rattle.octets.specs.Bytes.{if◌then◌otherwise◌}
use Rattle.octets.proofs.Bool.{not_both}
use Rattle.layout.specs.Layout.{slots}
use Rattle.terms.specs.Terms.{opening}
use Rattle.sorting.specs.Sorting.{insert, sorted, times}
use Rattle.sorting.proofs.Laws.{sorting, each_at, each_sorted}
use Rattle.running_order.specs.Order.{shown, order_number, shown_numbers, in_order}
use Rattle.running_order.specs.Laws.{Before, by_opening, by_slot}
use Rattle.running_order.proofs.Numbers.{numbers_cases}
use Rattle.running_order.proofs.Shown.{number_slot, Carries, numbers_carry}

-- ---- sums over a list, which sorting keeps

unfoldable pub sum : (ℕ → ℕ) → List ℕ → ℕ
sum g [] = 0
sum g (k ∷ ks) = g k + sum g ks

module _ (g : ℕ → ℕ) where
  sum_insert : (k : ℕ) (ks : List ℕ) → sum g (insert k ks) ≡ g k + sum g ks
  unfolding sum insert
  sum_insert k [] = refl
  sum_insert k (x ∷ ks) = go (leb k x) refl (sum_insert k ks)
    where
      go : (b : Bool) → leb k x ≡ b → sum g (insert k ks) ≡ g k + sum g ks → sum g (insert k (x ∷ ks)) ≡ g k + (g x + sum g ks)
      go true e q = rw e
      go false e q = rw (e, q) (omega arith)

  pub sum_sorted : (ks : List ℕ) → sum g (sorted ks) ≡ sum g ks
  unfolding sum sorted
  sum_sorted [] = refl
  sum_sorted (k ∷ ks) = sum_insert k (sorted ks) ∙ ap (λ (n : ℕ). g k + n) (sum_sorted ks)

  pub sum_snoc : (ks : List ℕ) (k : ℕ) → sum g (ks ++ (k ∷ [])) ≡ sum g ks + g k
  unfolding sum
  sum_snoc [] k = omega arith
  sum_snoc (x ∷ ks) k = rw (sum_snoc ks k) (omega arith)

-- 1 for a number that carries slot i
unfoldable pub of_slot : ℕ → ℕ → ℕ
of_slot i k = if eqb i (k % 256) then 1 otherwise 0

times_sum : (i : ℕ) (ks : List ℕ) → times i (map (λ k. k % 256) ks) ≡ sum (of_slot i) ks
unfolding times sum of_slot
times_sum i [] = refl
times_sum i (k ∷ ks) = ap (λ (n : ℕ). (if eqb i (k % 256) then 1 otherwise 0) + n) (times_sum i ks)

-- ---- how often a slot stands in the order

module _ (s t : List ℕ) (day i : ℕ) where
  abbrev count : ℕ → ℕ
  count n = sum (of_slot i) (shown_numbers s t day n)

  count_other : (n : ℕ) → n < 256 → (i ≡ n → ⊥) → count (suc n) ≡ count n
  unfolding of_slot
  count_other n h d =
      numbers_cases s t day (λ ks. sum (of_slot i) ks ≡ count n) n
      (λ e. sum_snoc (of_slot i) (shown_numbers s t day n) (order_number s t n) ∙ rw (number_slot s t n h, ne_eqb i n d) (omega arith))
      (λ e. refl)

  count_above : (n : ℕ) → n ≤ 256 → n ≤ i → count n ≡ 0
  unfolding sum shown_numbers
  count_above zero h l = refl
  count_above (suc n) h l = count_other n (omega arith) (λ e. omega arith) ∙ count_above n (omega arith) (omega arith)

  -- below i nothing, at i one where it is shown, and no more after
  count_at : (b : Bool) → shown s t day i ≡ b → i < 256 → count (suc i) ≡ (if b then 1 otherwise 0)
  unfolding of_slot
  count_at true e h =
      numbers_cases s t day (λ ks. sum (of_slot i) ks ≡ 1) i
      (λ f. sum_snoc (of_slot i) (shown_numbers s t day i) (order_number s t i) ∙ rw (number_slot s t i h, eq-eqb i i refl, count_above i (omega arith) (omega arith)))
      (λ f. absurd (not_both (shown s t day i) e f))
  count_at false e h =
      numbers_cases s t day (λ ks. sum (of_slot i) ks ≡ 0) i
      (λ f. absurd (not_both (shown s t day i) f e))
      (λ f. count_above i (omega arith) (omega arith))

  count_upto : (b : Bool) → shown s t day i ≡ b → (n : ℕ) → n ≤ 256 → i < n → count n ≡ (if b then 1 otherwise 0)
  count_upto b e zero h l = absurd (omega arith)
  count_upto b e (suc n) h l =
      elim (dec_lt i n) [
        | yes k ↦ count_other n (omega arith) (λ q. omega arith) ∙ count_upto b e n (omega arith) k
        | no k ↦ let q : n ≡ i = omega arith in rw q (count_at b e (omega arith))
      ]

  module _ (few : slots s ≤ 256) where
    times_count : times i (in_order s t day) ≡ count (slots s)
    unfolding in_order
    times_count = times_sum i (sorted (shown_numbers s t day (slots s))) ∙ sum_sorted (of_slot i) (shown_numbers s t day (slots s))

    pub times_above : slots s ≤ i → times i (in_order s t day) ≡ 0
    times_above h = times_count ∙ count_above (slots s) few h

    pub times_upto : i < slots s → (b : Bool) → shown s t day i ≡ b → times i (in_order s t day) ≡ (if b then 1 otherwise 0)
    times_upto h b e = times_count ∙ count_upto b e (slots s) few h

    pub times_most : times i (in_order s t day) ≤ 1
    times_most =
        elim (dec_lt i (slots s)) [
          | yes l ↦ go (shown s t day i) refl l
          | no l ↦ omega (arith, times_above (omega arith))
        ]
      where
        go : (b : Bool) → shown s t day i ≡ b → i < slots s → times i (in_order s t day) ≤ 1
        go true e l = rw (times_upto l true e) (omega arith)
        go false e l = rw (times_upto l false e) (omega arith)

-- ---- of two places the first comes before

-- what stands at a place stands there once, and what stands at two twice
times_at : (xs : List ℕ) (j : ℕ) → j < length xs → 1 ≤ times (get_or xs j 0) xs
unfolding times
times_at [] j h = absurd (omega arith)
times_at (x ∷ xs) zero h = rw (eq-eqb x x refl) (omega arith)
times_at (x ∷ xs) (suc j) h = omega (arith, times_at xs j (omega arith))

times_twice : (xs : List ℕ) (j k : ℕ) → j < k → k < length xs → get_or xs j 0 ≡ get_or xs k 0 → 2 ≤ times (get_or xs k 0) xs
unfolding times
times_twice [] j k h g e = absurd (omega arith)
times_twice (x ∷ xs) j zero h g e = absurd (omega arith)
times_twice (x ∷ xs) zero (suc k) h g e = rw (eq-eqb (get_or xs k 0) x (sym e)) (omega (arith, times_at xs k (omega arith)))
times_twice (x ∷ xs) (suc j) (suc k) h g e = omega (arith, times_twice xs j k (omega arith) (omega arith) e)

get_or_slot : (ks : List ℕ) (j : ℕ) → get_or (map (λ k. k % 256) ks) j 0 ≡ get_or ks j 0 % 256
get_or_slot [] j = refl
get_or_slot (k ∷ ks) zero = refl
get_or_slot (k ∷ ks) (suc j) = get_or_slot ks j

length_slots : (ks : List ℕ) → length (map (λ k. k % 256) ks) ≡ length ks
length_slots [] = refl
length_slots (k ∷ ks) = ap suc (length_slots ks)

module _ (s t : List ℕ) where
  -- a lower order number is an earlier place
  number_before : (i j : ℕ) → i < 256 → j < 256 → (i ≡ j → ⊥) → order_number s t i ≤ order_number s t j → Before s t i j
  unfolding order_number
  number_before i j h g d l =
      elim (dec_lt (opening t i) (opening t j)) [
        | yes o ↦ by_opening o
        | no o ↦ elim (dec_lt i j) [ yes m ↦ by_slot (omega arith) m | no m ↦ absurd (d (omega arith)) ]
      ]

  module _ (day : ℕ) (few : slots s ≤ 256) where
    abbrev sorted_numbers : List ℕ
    sorted_numbers = sorted (shown_numbers s t day (slots s))

    carries : (j : ℕ) → j < length sorted_numbers → Carries s t (slots s) (get_or sorted_numbers j 0)
    carries j h = each_at (Carries s t (slots s)) sorted_numbers j (each_sorted (Carries s t (slots s)) (shown_numbers s t day (slots s)) (numbers_carry s t day (slots s) few)) h

    pub in_turn : (j k : ℕ) → j < k → k < length (in_order s t day) → Before s t (get_or (in_order s t day) j 0) (get_or (in_order s t day) k 0)
    unfolding in_order
    in_turn j k h g =
        let inside : k < length (map (λ k. k % 256) sorted_numbers) = g in
        let size : k < length sorted_numbers = omega (arith, length_slots sorted_numbers) in
        let a : Carries s t (slots s) (get_or sorted_numbers j 0) = carries j (omega arith) in
        let b : Carries s t (slots s) (get_or sorted_numbers k 0) = carries k size in
        let order : order_number s t (get_or sorted_numbers j 0 % 256) ≤ order_number s t (get_or sorted_numbers k 0 % 256) =
        omega (arith, sorting.rising (shown_numbers s t day (slots s)) j k (omega arith) size, a.number, b.number) in
        let apart : get_or sorted_numbers j 0 % 256 ≡ get_or sorted_numbers k 0 % 256 → ⊥ = λ e.
        omega (arith, times_most s t day (get_or (in_order s t day) k 0) few, times_twice (in_order s t day) j k h g (get_or_slot sorted_numbers j ∙ e ∙ sym (get_or_slot sorted_numbers k))) in
        rw (get_or_slot sorted_numbers j, get_or_slot sorted_numbers k) (number_before (get_or sorted_numbers j 0 % 256) (get_or sorted_numbers k 0 % 256) (omega (arith, a.below)) (omega (arith, b.below)) apart order)
