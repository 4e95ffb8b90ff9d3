-- What is proved of the running order: which text is printed, which slots have a line, what a line says, in what order they stand, how the text is read back, and what a call does.
use Rattle.std.specs.Prelude.{ℕ, ◌≤◌, ◌<◌, ◌≡◌, List, [], ◌∷◌, ◌++◌, map, ◌↔◌, ◌⊎◌, eqb, length, get_or, take, drop, replicate, Some, None}
use Rattle.octets.specs.Bytes.{if◌then◌otherwise◌, Bytes}
use Rattle.octets.specs.Clauses.{◌when◌, Exactly}
use Rattle.octets.specs.BlockCalls.{Leaves}
use Rattle.calendar.specs.Calendar.{day_of_date}
use Rattle.calendar.specs.Laws.{IsDate}
use Rattle.layout.specs.Layout.{slots, edition_of, mark_length, mark}
use Rattle.layout.specs.Rules.{IsBlank, MeetsLayout}
use Rattle.terms.specs.Terms.{opening, closing}
use Rattle.terms.specs.Rules.{MeetsTerms, OnShow}
use Rattle.dates.specs.DateText.{day_text}
use Rattle.dates.specs.Laws.{spelled, NoDateText, DateTexts}
use Rattle.listing.specs.Ascii.{ascii}
use Rattle.listing.specs.Listing.{decimal}
use Rattle.sorting.specs.Sorting.{times}
use Rattle.sorting.specs.Laws.{Sorting}
use Rattle.running_order.specs.Order.{show_line, show_lines, running_order}
use Rattle.running_order.specs.Calls.{order_outcome, ordering}
use Rattle.running_order.specs.Example.{example_sheet, example_terms}

-- ---- which slots, and in what order

-- both sheets are fit
pub record BothFit (s t : List ℕ) : Type 0 where
  pub sheet : MeetsLayout s
  pub terms : MeetsTerms (slots s) t

-- slot i is a written one on show; whether its caption was altered plays no part
pub record IsShown (s t : List ℕ) (day i : ℕ) : Type 0 where
  pub below : i < slots s
  pub written : IsBlank (edition_of s) s i → ⊥
  pub on_show_lem : OnShow (slots s) t i day

-- earliest opening first, and lower slot first among equals; of the caption sheet s nothing is asked yet
pub data Before (s t : List ℕ) (i j : ℕ) : Type 0 where
  by_opening : opening t i < opening t j → Before s t i j
  by_slot : opening t i ≡ opening t j → i < j → Before s t i j

-- the text is the lines of some slots: every written slot on show once and no other, and of any two lines the first is that of the slot that comes before
pub record Listed (s t : List ℕ) (day : ℕ) (text : List ℕ) : Type 0 where
  pub order : List ℕ
  pub lines : text ≡ show_lines s t order
  pub once : (i : ℕ) → IsShown s t day i → times i order ≡ 1
  pub no_other : (i : ℕ) → (IsShown s t day i → ⊥) → times i order ≡ 0
  pub in_turn : (j k : ℕ) → j < k → k < length order → Before s t (get_or order j 0) (get_or order k 0)

-- ---- lines

-- the line of slot i before its line feed: slot, opening date, closing date and length, with one space, 32, between
abbrev pub words : (s t : List ℕ) → ℕ → List ℕ
words s t i =
    decimal i ++ (32 ∷ (day_text (opening t i) ++ (32 ∷ (day_text (closing (slots s) t i) ++ (32 ∷ decimal (mark_length (mark (edition_of s) s i)))))))

-- c put before the first of some texts
unfoldable pub on_first : ℕ → List (List ℕ) → List (List ℕ)
on_first c [] = (c ∷ []) ∷ []
on_first c (x ∷ xs) = (c ∷ x) ∷ xs

-- a text cut at each byte b, which falls away
unfoldable pub cut_at : ℕ → List ℕ → List (List ℕ)
cut_at b [] = [] ∷ []
cut_at b (c ∷ x) = if eqb c b then ([] ∷ cut_at b x) otherwise on_first c (cut_at b x)

-- ---- the call

pub record OrderCalls : Type 0 where
  -- 3 exactly if the text is longer than the output, which then stays as it was
  pub exactly : (s t x out : List ℕ) → Exactly (ordering s t x out).number ((3 when (length out < length (running_order s t x))) ∷ [])
  pub refused : (s t x out : List ℕ) → ((ordering s t x out).number ≡ 0 → ⊥) → Leaves (ordering s t x out) out
  pub too_long : (s t x out : List ℕ) → length out < length (running_order s t x) → ordering s t x out ≡ record { number = 3; len = 0; bytes = out }
  -- else the text stands at the start of the output, the rest of which stays as it was
  pub accepted : (s t x out : List ℕ) → length (running_order s t x) ≤ length out
      → ordering s t x out ≡ record { number = 0; len = length (running_order s t x); bytes = running_order s t x ++ drop (length (running_order s t x)) out }
  -- 7570 bytes always suffice
  pub suffices : (s t x out : List ℕ) → 7570 ≤ length out → (ordering s t x out).number ≡ 0
  -- what each answer of the code means, whatever the output holds
  pub put : (n : ℕ) (bytes : List ℕ) → order_outcome (Some n) bytes ≡ record { number = 0; len = n; bytes = bytes }
  pub wrong_span : (bytes : List ℕ) → order_outcome None bytes ≡ record { number = 3; len = 0; bytes = bytes }

-- ---- in plain values

pub record Exhibited : Type 0 where
  -- the seven slots' terms, and the header and the first mark; every check and every field of the sheet is zero, and the order shows them all the same
  pub terms_are : example_terms
      ≡ 0 ∷ 7 ∷ 0 ∷ 10 ∷ 0 ∷ 21 ∷ 0 ∷ 10 ∷ 0 ∷ 19 ∷ 0 ∷ 20 ∷ 0 ∷ 0 ∷ 0 ∷ 21 ∷ 0 ∷ 30 ∷ 0 ∷ 50 ∷ 0 ∷ 40 ∷ 0 ∷ 21 ∷ 0 ∷ 25 ∷ 0 ∷ 20 ∷ 0 ∷ 19 ∷ []
  pub sheet_starts : take 24 example_sheet ≡ 0 ∷ 7 ∷ 4 ∷ 3 ∷ 0 ∷ 0 ∷ 0 ∷ 9 ∷ 0 ∷ 7 ∷ 0 ∷ 0 ∷ 0 ∷ 0 ∷ 0 ∷ 0 ∷ 0 ∷ 0 ∷ 0 ∷ 3 ∷ 0 ∷ 17 ∷ 0 ∷ 0 ∷ []
  -- on 2000-01-21, day 20: slots 0 and 2 open on the same day, 1 opens on the day after, 3 is blank though its term holds the day, 4 is on show on its first day, 5 on its last, and 6 never
  pub example : running_order example_sheet example_terms (ascii "2000-01-21")
      ≡ ascii "5 2000-01-01 2000-01-21 41\n0 2000-01-11 2000-01-31 17\n2 2000-01-11 2000-02-10 0\n4 2000-01-21 2000-01-26 40\n"
  -- the day before, 5 is on show and 4 not yet; the day after, 1 opens and 5 is gone
  pub day_before : running_order example_sheet example_terms (ascii "2000-01-20")
      ≡ ascii "5 2000-01-01 2000-01-21 41\n0 2000-01-11 2000-01-31 17\n2 2000-01-11 2000-02-10 0\n"
  pub day_after_lem : running_order example_sheet example_terms (ascii "2000-01-22")
      ≡ ascii "0 2000-01-11 2000-01-31 17\n2 2000-01-11 2000-02-10 0\n4 2000-01-21 2000-01-26 40\n1 2000-01-22 2000-02-20 192\n"
  -- a false date; the same with a caption sheet that ends a byte early, of which "unfit" is said first
  pub no_day : running_order example_sheet example_terms (ascii "2000-1-21") ≡ ascii "no such date\n"
  pub torn : running_order (take 1471 example_sheet) example_terms (ascii "2000-1-21") ≡ ascii "unfit\n"
  -- a true date with a term sheet that ends a byte early, with none, and with the sheets exchanged
  pub torn_terms : running_order example_sheet (take 29 example_terms) (ascii "2000-01-21") ≡ ascii "unfit\n"
  pub no_terms : running_order example_sheet [] (ascii "2000-01-21") ≡ ascii "unfit\n"
  pub exchanged : running_order example_terms example_sheet (ascii "2000-01-21") ≡ ascii "unfit\n"
  -- a text cut at its line feeds
  pub cut : cut_at 10 (ascii "a\n\nbc\n") ≡ ascii "a" ∷ [] ∷ ascii "bc" ∷ [] ∷ []
  -- calls: the 107 bytes of 2000-01-21 leave one of 108, and don't fit 106; "unfit" fits 6 bytes; nothing on show fits an output of no bytes
  pub lines_put : ordering example_sheet example_terms (ascii "2000-01-21") (replicate 108 7)
      ≡ record { number = 0; len = 107; bytes = ascii "5 2000-01-01 2000-01-21 41\n0 2000-01-11 2000-01-31 17\n2 2000-01-11 2000-02-10 0\n4 2000-01-21 2000-01-26 40\n" ++ (7 ∷ []) }
  pub too_short : ordering example_sheet example_terms (ascii "2000-01-21") (replicate 106 7) ≡ record { number = 3; len = 0; bytes = replicate 106 7 }
  pub unfit_put : ordering [] [] [] (replicate 6 7) ≡ record { number = 0; len = 6; bytes = 0x75 ∷ 0x6e ∷ 0x66 ∷ 0x69 ∷ 0x74 ∷ 0x0a ∷ [] }
  pub nothing_put : ordering example_sheet example_terms (ascii "2000-03-01") [] ≡ record { number = 0; len = 0; bytes = [] }

-- ---- the statement

pub record RunningOrder : Type 0 where
  -- what the words of the laws come to: they ask for no more, and say no less
  pub both_fit : (s t : List ℕ) → BothFit s t ↔ (MeetsLayout s × MeetsTerms (slots s) t)
  pub is_shown : (s t : List ℕ) (day i : ℕ) → IsShown s t day i ↔ ((i < slots s) × (IsBlank (edition_of s) s i → ⊥) × (opening t i ≤ day) × (day ≤ closing (slots s) t i))
  pub is_before : (s t : List ℕ) (i j : ℕ) → Before s t i j ↔ ((opening t i < opening t j) ⊎ ((opening t i ≡ opening t j) × (i < j)))
  -- "unfit" exactly if a sheet of either kind is
  pub unfit : (s t x : List ℕ) → (running_order s t x ≡ ascii "unfit\n") ↔ (BothFit s t → ⊥)
  -- else "no such date" exactly if the text is that of no date
  pub no_such_date : (s t x : List ℕ) → BothFit s t → (running_order s t x ≡ ascii "no such date\n") ↔ NoDateText x
  -- else the lines of the date, s being bytes, as every sheet is; nothing on show is no line at all
  pub listed : (s t : List ℕ) → Bytes s → BothFit s t → (y m d : ℕ) → IsDate y m d → Listed s t (day_of_date y m d).day (running_order s t (spelled y m d))
  pub nothing : (s t : List ℕ) → BothFit s t → (y m d : ℕ) → IsDate y m d → ((i : ℕ) → IsShown s t (day_of_date y m d).day i → ⊥) → running_order s t (spelled y m d) ≡ []
  -- a line, and lines one after the other
  pub a_line : (s t : List ℕ) (i : ℕ) → show_line s t i ≡ words s t i ++ (10 ∷ [])
  pub lines_none : (s t : List ℕ) → show_lines s t [] ≡ []
  pub lines_more : (s t : List ℕ) (i : ℕ) (is : List ℕ) → show_lines s t (i ∷ is) ≡ show_line s t i ++ show_lines s t is
  -- read back: cut at line feeds, 10, the text gives the lines, and nothing after the last; cut at spaces, a line gives its words
  pub lines_apart : (s t is : List ℕ) → cut_at 10 (show_lines s t is) ≡ map (words s t) is ++ ([] ∷ [])
  pub words_apart : (s t : List ℕ) (i : ℕ) → cut_at 32 (words s t i)
      ≡ decimal i ∷ day_text (opening t i) ∷ day_text (closing (slots s) t i) ∷ decimal (mark_length (mark (edition_of s) s i)) ∷ []
  -- no text is longer: 256 slots, lengths of three digits
  pub longest : (s t x : List ℕ) → length (running_order s t x) ≤ 7570
  -- dates as text, and how often a number stands in a list
  pub dates : DateTexts
  pub sorting : Sorting
  -- a sheet on three days, and calls, in plain values
  pub exhibited : Exhibited
  -- the call
  pub calls : OrderCalls
