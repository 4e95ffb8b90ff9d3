-- How long a running order is: 7570 bytes at most.
use Prim.Native.Nat.{ℕ, zero, suc, ◌+◌, ◌-◌, ◌*◌, ◌%◌, ◌≤◌, ◌<◌}
use mathlib.Core.Path.{◌≡◌, refl, sym, ap, ◌∙◌}
use mathlib.Core.Bool.{Bool, true, false, not, ◌&&◌}
use mathlib.Core.List.{List, [], ◌∷◌, map}
use native.Mathlib.Decide.{dec_lt}
use native.Mathlib.Nat.{mul-suc}
use native.Mathlib.Omega.{arith}
use lib.Dec.{eqb}
use lib.ListN.{length, length-append}
use Rattle.octets.specs.Bytes.{if◌then◌otherwise◌}
use Rattle.octets.proofs.Bool.{and_left}
use Rattle.layout.specs.Layout.{slots, last_write, edition_of, mark_length, mark, blank_slot, fit}
use Rattle.layout.proofs.Fits.{Fits, fit_facts, fits_few, not_blank_written, written_length}
use Rattle.terms.specs.Terms.{opening, closing, fit_terms, on_show}
use Rattle.dates.specs.DateText.{day_of_text}
use Rattle.dates.proofs.DateText.{length_day}
use Rattle.listing.specs.Ascii.{ascii}
use Rattle.listing.specs.Listing.{decimal, line}
use Rattle.listing.proofs.Decimal.{length_decimal}
use Rattle.sorting.specs.Sorting.{sorted}
use Rattle.running_order.specs.Order.{shown, show_line, show_lines, order_number, shown_numbers, in_order, running_order}
use Rattle.running_order.proofs.Numbers.{numbers_cases}
use Rattle.running_order.proofs.Shown.{number_slot}
use Rattle.running_order.proofs.Turns.{sum, sum_sorted, sum_snoc}

module _ (s t : List ℕ) where
  -- 24 bytes beside the digits of slot and length
  line_size : (i : ℕ) → length (show_line s t i) ≡ length (decimal i) + 24 + length (decimal (mark_length (mark (edition_of s) s i)))
  unfolding show_line line
  line_size i = simp length-append (omega (arith, length_day (opening t i), length_day (closing (slots s) t i)))

  -- the bytes of the line that a number stands for
  abbrev size : ℕ → ℕ
  size k = length (show_line s t (k % 256))

  lines_size : (ks : List ℕ) → length (show_lines s t (map (λ k. k % 256) ks)) ≡ sum size ks
  unfolding show_lines sum
  lines_size [] = refl
  lines_size (k ∷ ks) = length-append (show_line s t (k % 256)) (show_lines s t (map (λ k. k % 256) ks)) ∙ ap (λ (n : ℕ). size k + n) (lines_size ks)

  module _ (day : ℕ) (f : Fits s) where
    abbrev total : ℕ → ℕ
    total n = sum size (shown_numbers s t day n)

    few : slots s ≤ 256
    few = fits_few (edition_of s) s f

    -- one slot more, with c digits: its length has at most three
    grows : (n c : ℕ) → n < slots s → length (decimal n) ≤ c → total (suc n) ≤ total n + (27 + c)
    unfolding shown
    grows n c h d =
        numbers_cases s t day (λ ks. sum size ks ≤ total n + (27 + c)) n
        (λ e.
        let short : mark_length (mark (edition_of s) s n) ≤ 192 =
        written_length (last_write s) (mark (edition_of s) s n)
        (not_blank_written (edition_of s) s f n h (is_false (blank_slot (edition_of s) s n) (and_left (not (blank_slot (edition_of s) s n)) (on_show (slots s) t n day) e))) in
        let line : length (show_line s t (order_number s t n % 256)) ≡ length (show_line s t n) = ap (λ (i : ℕ). length (show_line s t i)) (number_slot s t n (omega (arith, few))) in
        omega (arith, sum_snoc size (shown_numbers s t day n) (order_number s t n), line, line_size n, length_decimal 2 (mark_length (mark (edition_of s) s n)) (omega arith)))
        (λ e. omega arith)
      where
        is_false : (b : Bool) → not b ≡ true → b ≡ false
        is_false false e = refl
        is_false true e = sym e

    -- k slots more from a, none of which has more than c digits
    run : (a c u : ℕ) → ((i : ℕ) → i < u → length (decimal i) ≤ c) → (k : ℕ) → a + k ≤ u → a + k ≤ slots s → total (a + k) ≤ total a + (27 + c) * k
    run a c u d zero h g = let e : a + 0 ≡ a = omega arith in rw e (omega arith)
    run a c u d (suc k) h g =
        let e : a + suc k ≡ suc (a + k) = omega arith in
        rw e (omega (arith, grows (a + k) c (omega arith) (d (a + k) (omega arith)), run a c u d k (omega arith) (omega arith), mul-suc (27 + c) k))

    -- 10 slots of one digit, 90 of two, 156 of three
    one : (n : ℕ) → n ≤ 10 → n ≤ slots s → total n ≤ 28 * n
    unfolding sum shown_numbers
    one n h g =
        let e : 0 + n ≡ n = omega arith in
        let r : total (0 + n) ≤ 0 + 28 * n = run 0 1 10 (λ i. length_decimal 0 i) n (omega arith) (omega arith) in
        omega (arith, ap total e, r)

    two : (n : ℕ) → 10 ≤ n → n ≤ 100 → n ≤ slots s → total n ≤ 280 + 29 * (n - 10)
    two n l h g =
        let e : 10 + (n - 10) ≡ n = omega arith in
        let r : total (10 + (n - 10)) ≤ total 10 + 29 * (n - 10) = run 10 2 100 (λ i. length_decimal 1 i) (n - 10) (omega arith) (omega arith) in
        omega (arith, ap total e, r, one 10 (omega arith) (omega arith))

    three : (n : ℕ) → 100 ≤ n → n ≤ 256 → n ≤ slots s → total n ≤ 2890 + 30 * (n - 100)
    three n l h g =
        let e : 100 + (n - 100) ≡ n = omega arith in
        let r : total (100 + (n - 100)) ≤ total 100 + 30 * (n - 100) = run 100 3 1000 (λ i. length_decimal 2 i) (n - 100) (omega arith) (omega arith) in
        omega (arith, ap total e, r, two 100 (omega arith) (omega arith) (omega arith))

    all : (n : ℕ) → n ≤ 256 → n ≤ slots s → total n ≤ 7570
    all n h g =
        elim (dec_lt n 10) [
          | yes l ↦ omega (arith, one n (omega arith) g)
          | no l ↦ elim (dec_lt n 100) [ yes k ↦ omega (arith, two n (omega arith) (omega arith) g) | no k ↦ omega (arith, three n (omega arith) h g) ]
        ]

    lines_most : length (show_lines s t (in_order s t day)) ≤ 7570
    unfolding in_order
    lines_most =
        omega (
          arith,
          lines_size (sorted (shown_numbers s t day (slots s))),
          sum_sorted size (shown_numbers s t day (slots s)),
          all (slots s) few (omega arith),
        )

  pub longest : (x : List ℕ) → length (running_order s t x) ≤ 7570
  unfolding running_order
  longest x = go (fit s && fit_terms (slots s) t) refl (eqb (day_of_text x).number 0)
    where
      go : (b : Bool) → fit s && fit_terms (slots s) t ≡ b → (c : Bool)
          → length (if b then (if c then show_lines s t (in_order s t (day_of_text x).day) otherwise ascii "no such date\n") otherwise ascii "unfit\n") ≤ 7570
      go true e true = lines_most (day_of_text x).day (fit_facts s (and_left (fit s) (fit_terms (slots s) t) e))
      go true e false = omega arith
      go false e c = omega arith
