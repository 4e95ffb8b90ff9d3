-- The running order of a day (document 02, request 11): text as bytes of ASCII.
use Rattle.std.specs.Prelude.{ℕ, zero, suc, ◌+◌, ◌*◌, ◌%◌, Bool, not, ◌&&◌, List, [], ◌∷◌, ◌++◌, map, eqb}
use Rattle.octets.specs.Bytes.{if◌then◌otherwise◌}
use Rattle.layout.specs.Layout.{slots, edition_of, mark_length, mark, blank_slot, fit}
use Rattle.terms.specs.Terms.{opening, closing, fit_terms, on_show}
use Rattle.dates.specs.DateText.{day_text, day_of_text}
use Rattle.listing.specs.Ascii.{ascii}
use Rattle.listing.specs.Listing.{decimal, line}
use Rattle.sorting.specs.Sorting.{sorted}

-- s is a caption sheet and t its term sheet
module _ (s t : List ℕ) where
  -- "every written slot on show": there are no keys, so an altered caption is shown too
  unfoldable pub shown : ℕ → ℕ → Bool
  shown day i = not (blank_slot (edition_of s) s i) && on_show (slots s) t i day

  -- "slot, opening date, closing date (same form) and length, one space apart"
  unfoldable pub show_line : ℕ → List ℕ
  show_line i =
      line (decimal i)
      (day_text (opening t i) ∷ day_text (closing (slots s) t i) ∷ decimal (mark_length (mark (edition_of s) s i)) ∷ [])

  -- the lines of some slots
  unfoldable pub show_lines : List ℕ → List ℕ
  show_lines [] = []
  show_lines (i ∷ is) = show_line i ++ show_lines is

  -- "earliest opening first and lower slot first among equals": the number by which slot i stands in the order; its low eight bits are the slot
  unfoldable pub order_number : ℕ → ℕ
  order_number i = opening t i * 256 + i

  -- the numbers of the slots below n that are shown
  unfoldable pub shown_numbers : ℕ → ℕ → List ℕ
  shown_numbers day zero = []
  shown_numbers day (suc n) = shown_numbers day n ++ (if shown day n then (order_number n ∷ []) otherwise [])

  -- the slots that are shown, in their order
  unfoldable pub in_order : ℕ → List ℕ
  in_order day = map (λ k. k % 256) (sorted (shown_numbers day (slots s)))

-- the running order for the date in the text x
unfoldable pub running_order : List ℕ → List ℕ → List ℕ → List ℕ
running_order s t x =
    if fit s && fit_terms (slots s) t then
    (if eqb (day_of_text x).number 0 then show_lines s t (in_order s t (day_of_text x).day) otherwise ascii "no such date\n")
    otherwise ascii "unfit\n"
