-- The numbers that the code sorts are those of the slots in their order.
use Prim.Native.Nat.{ℕ, zero, suc, ◌%◌, ◌≤◌, ◌<◌}
use mathlib.Core.Path.{◌≡◌, sym, ap, ◌∙◌}
use mathlib.Core.List.{List, [], ◌∷◌, ◌++◌, map}
use native.Mathlib.Omega.{arith}
use lib.ListN.{length, take, drop, length-append, length-drop}
use lib.Seq.{length-take-le}
use Rattle.octets.specs.Clauses.{Each, none, and}
use Rattle.octets.proofs.Parts.{part_append_head}
use Rattle.layout.specs.declared.Shape.{Shape}
use Rattle.layout.specs.Layout.{slots}
use Rattle.layout.specs.Shape.{SheetOf}
use Rattle.layout.proofs.Slots.{sheet_slots}
use Rattle.sorting.specs.Sorting.{sorted}
use Rattle.sorting.proofs.Laws.{each_as, each_append, each_sorted, length_sorted}
use Rattle.running_order.specs.Order.{order_number, shown_numbers, in_order, show_lines}
use Rattle.running_order.specs.Inner.{Holds, Carry}
use Rattle.running_order.proofs.Numbers.{numbers_cases, numbers_few}

module _ (s t : List ℕ) where
  -- the number of a slot carries it
  pub number_slot : (i : ℕ) → i < 256 → order_number s t i % 256 ≡ i
  unfolding order_number
  number_slot i h = omega arith

  -- so each number below slot n is that of the slot it carries, which is below n
  pub record Carries (n k : ℕ) : Type 0 where
    pub below : k % 256 < n
    pub number : k ≡ order_number s t (k % 256)

  pub numbers_carry : (day n : ℕ) → n ≤ 256 → Each (Carries n) (shown_numbers s t day n)
  unfolding shown_numbers
  numbers_carry day zero h = none
  numbers_carry day (suc n) h =
      let wider : Each (Carries (suc n)) (shown_numbers s t day n) =
      each_as (Carries n) (Carries (suc n)) (shown_numbers s t day n) (λ k c. record { below = omega (arith, c.below); number = c.number }) (numbers_carry day n (omega arith)) in
      let e : order_number s t n % 256 ≡ n = number_slot n (omega arith) in
      numbers_cases s t day (Each (Carries (suc n))) n
      (λ f. each_append (Carries (suc n)) (shown_numbers s t day n) (order_number s t n ∷ []) wider (and (record { below = omega arith; number = ap (order_number s t) (sym e) }) none))
      (λ f. wider)

  -- l begins with the n numbers of the slots that are shown, and m with those sorted
  module _ (h : Shape) (f : SheetOf s h) (day : ℕ) (l : List ℕ) (n : ℕ) (p : Holds l n (shown_numbers s t day h.slots)) where
    pub shown_few : n ≤ 256
    shown_few = omega (arith, p.count, numbers_few s t day h.slots, f.small.1)

    pub shown_within : n ≤ length l
    shown_within = omega (arith, shown_few, p.size)

    pub shown_count : n ≡ length (take n l)
    shown_count = sym (length-take-le n l shown_within)

    -- y is those sorted, which take their place
    module _ (y : List ℕ) (e : y ≡ sorted (take n l)) where
      size : length y ≡ n
      size = ap length e ∙ length_sorted (take n l) ∙ length-take-le n l (omega (arith, p.size, shown_few))

      sorted_size : length (y ++ drop n l) ≡ 256
      sorted_size = omega (arith, length-append y (drop n l), size, length-drop n l, p.size, shown_few)

      pub sorted_count : n ≡ length (take n (y ++ drop n l))
      sorted_count = sym (length-take-le n (y ++ drop n l) (omega (arith, sorted_size, shown_few)))

      sorted_are : take n (y ++ drop n l) ≡ sorted (shown_numbers s t day h.slots)
      sorted_are = part_append_head y (drop n l) n size ∙ e ∙ ap sorted p.first

      pub lines_few : length (take n (y ++ drop n l)) ≤ 256
      lines_few = omega (arith, sorted_count, shown_few)

      pub shown_carry : Carry (take n (y ++ drop n l)) h.slots
      shown_carry =
          record {
            slots =
                rw sorted_are
                (each_as (Carries h.slots) (λ k. k % 256 < h.slots) (sorted (shown_numbers s t day h.slots)) (λ k c. c.below)
                (each_sorted (Carries h.slots) (shown_numbers s t day h.slots) (numbers_carry day h.slots f.small.1)));
          }

      pub shown_put : (x : List ℕ) → x ≡ show_lines s t (map (λ k. k % 256) (take n (y ++ drop n l))) → x ≡ show_lines s t (in_order s t day)
      unfolding in_order
      shown_put x q =
          let all : sorted (shown_numbers s t day h.slots) ≡ sorted (shown_numbers s t day (slots s)) = ap (λ (k : ℕ). sorted (shown_numbers s t day k)) (sheet_slots s h f) in
          q ∙ rw (sorted_are, all)
