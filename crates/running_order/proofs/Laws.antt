-- The statement on the running order.
use Rattle.std.specs.Prelude.{Option, Some, None}
use Prim.Native.Nat.{ℕ, ◌+◌, ◌≤◌, ◌<◌}
use mathlib.Core.Path.{◌≡◌, refl, ap, ◌∙◌}
use mathlib.Core.Bool.{true, false}
use mathlib.Core.List.{List, [], ◌∷◌, ◌++◌}
use mathlib.Core.Logic.{◌↔◌, ◌⊎◌, inl, inr}
use native.Mathlib.Decide.{dec_lt}
use native.Mathlib.Omega.{arith}
use borrow.Author.Tests.{eq-eqb, lt-ltb, le-ltb}
use lib.ListN.{length, drop}
use Rattle.octets.specs.Bytes.{put}
use Rattle.octets.specs.Outcome.{Outcome, decided}
use Rattle.octets.specs.Clauses.{◌when◌, Exactly}
use Rattle.octets.specs.BlockCalls.{Leaves}
use Rattle.octets.proofs.Clauses.{reflects_yes, reflects_no, reflects_ltb, Means, decided_exactly, decided_refused}
use Rattle.calendar.specs.Calendar.{DayOutcome, day_of_date}
use Rattle.calendar.specs.Laws.{IsDate}
use Rattle.layout.specs.Layout.{slots, edition_of, fit}
use Rattle.layout.specs.Rules.{IsBlank, MeetsLayout}
use Rattle.layout.proofs.Meaning.{reflects_fit, meets_few}
use Rattle.terms.specs.Terms.{opening, closing}
use Rattle.terms.specs.Rules.{MeetsTerms}
use Rattle.dates.specs.Laws.{spelled}
use Rattle.dates.proofs.Dates.{date_texts}
use Rattle.sorting.specs.Sorting.{times}
use Rattle.sorting.proofs.Laws.{sorting}
use Rattle.running_order.specs.Order.{in_order, show_lines, running_order}
use Rattle.running_order.specs.Calls.{order_outcome, order_tests, ordering}
use Rattle.running_order.specs.Laws.{BothFit, IsShown, Before, by_opening, by_slot, Listed, OrderCalls, RunningOrder}
use Rattle.running_order.proofs.Turns.{times_above, times_upto, in_turn}
use Rattle.running_order.proofs.Apart.{a_line, lines_apart, words_apart}
use Rattle.running_order.proofs.Exactly.{reflects_shown, order_lines, unfit_exactly, no_date_exactly}
use Rattle.running_order.proofs.Longest.{longest}
use Rattle.running_order.proofs.Example.{exhibited}

-- ---- what the words come to

both_fit : (s t : List ℕ) → BothFit s t ↔ (MeetsLayout s × MeetsTerms (slots s) t)
both_fit s t = (λ h. (h.sheet, h.terms), λ h. record { sheet = h.0; terms = h.1 })

is_shown : (s t : List ℕ) (day i : ℕ) → IsShown s t day i ↔ ((i < slots s) × (IsBlank (edition_of s) s i → ⊥) × (opening t i ≤ day) × (day ≤ closing (slots s) t i))
is_shown s t day i = (
  λ h. (h.below, h.written, h.on_show_lem.from, h.on_show_lem.to),
  λ h. record { below = h.0; written = h.1; on_show_lem = record { from = h.2; to = h.3 } },
)

is_before : (s t : List ℕ) (i j : ℕ) → Before s t i j ↔ ((opening t i < opening t j) ⊎ ((opening t i ≡ opening t j) × (i < j)))
is_before s t i j = (there, back)
  where
    there : Before s t i j → (opening t i < opening t j) ⊎ ((opening t i ≡ opening t j) × (i < j))
    there (by_opening l) = inl l
    there (by_slot e l) = inr (e, l)

    back : (opening t i < opening t j) ⊎ ((opening t i ≡ opening t j) × (i < j)) → Before s t i j
    back (inl l) = by_opening l
    back (inr h) = by_slot h.0 h.1

-- ---- the lines of a date

module _ (s t : List ℕ) (f : BothFit s t) (y m d : ℕ) (date : IsDate y m d) where
  abbrev day : ℕ
  day = (day_of_date y m d).day

  few : slots s ≤ 256
  few = meets_few f.sheet

  fits : fit s ≡ true
  fits = reflects_yes (reflects_fit s) f.sheet

  lines_are : running_order s t (spelled y m d) ≡ show_lines s t (in_order s t day)
  lines_are =
      order_lines s t (spelled y m d) f (record { year = y; month = m; day = d; is_date_lem = date; text = refl })
      ∙ ap (λ (o : DayOutcome). show_lines s t (in_order s t o.day)) (date_texts.taken y m d date)

  once : (i : ℕ) → IsShown s t day i → times i (in_order s t day) ≡ 1
  once i h = times_upto s t day i few h.below true (reflects_yes (reflects_shown s t day i fits h.below) (h.written, h.on_show_lem))

  other : (i : ℕ) → (IsShown s t day i → ⊥) → times i (in_order s t day) ≡ 0
  other i n =
      elim (dec_lt i (slots s)) [
        | yes k ↦ times_upto s t day i few k false (reflects_no (reflects_shown s t day i fits k) (λ h. n (record { below = k; written = h.0; on_show_lem = h.1 })))
        | no k ↦ times_above s t day i few (omega arith)
      ]

  listed : Listed s t day (running_order s t (spelled y m d))
  listed = record { order = in_order s t day; lines = lines_are; once = once; no_other = other; in_turn = in_turn s t day few }

  empty : (js : List ℕ) → ((i : ℕ) → times i js ≡ 0) → js ≡ []
  unfolding times
  empty [] h = refl
  empty (j ∷ js) h = let q : 1 + times j js ≡ 0 = rw (eq-eqb j j refl) at (h j) in absurd (omega arith)

  nothing : ((i : ℕ) → IsShown s t day i → ⊥) → running_order s t (spelled y m d) ≡ []
  unfolding show_lines
  nothing n = lines_are ∙ ap (show_lines s t) (empty (in_order s t day) (λ i. other i (n i)))

-- ---- the call

module _ (s t x out : List ℕ) where
  accepted : length (running_order s t x) ≤ length out
      → ordering s t x out ≡ record { number = 0; len = length (running_order s t x); bytes = running_order s t x ++ drop (length (running_order s t x)) out }
  unfolding ordering order_tests decided order_outcome put
  accepted h = let e : 0 + length (running_order s t x) ≡ length (running_order s t x) = omega arith in rw (le-ltb (length out) (length (running_order s t x)) h, e)

  too_long : length out < length (running_order s t x) → ordering s t x out ≡ record { number = 3; len = 0; bytes = out }
  unfolding ordering order_tests decided order_outcome
  too_long h = rw (lt-ltb (length out) (length (running_order s t x)) h)

  call_exactly : Exactly (ordering s t x out).number ((3 when (length out < length (running_order s t x))) ∷ [])
  unfolding ordering order_tests order_outcome Means
  call_exactly =
      decided_exactly (λ (a : Option ℕ). (order_outcome a out).number) (λ (o : Outcome). o.number) _ _ refl (λ a. refl) _ _
      (reflects_ltb (length out) (length (running_order s t x)), refl, λ t₃. tt)

  leaves : (a : Option ℕ) → ((order_outcome a out).number ≡ 0 → ⊥) → Leaves (order_outcome a out) out
  unfolding order_outcome
  leaves (Some n) h = absurd (h refl)
  leaves None h = record { len = refl; bytes_are = refl }

  call_refused : ((ordering s t x out).number ≡ 0 → ⊥) → Leaves (ordering s t x out) out
  unfolding ordering order_outcome
  call_refused =
      decided_refused (λ (a : Option ℕ). (order_outcome a out).number) (λ (o : Outcome). o.number) _ _ refl (λ a. refl) (λ o. Leaves o out) leaves _

pub order_calls : OrderCalls
unfolding order_outcome
order_calls =
    record {
      exactly = call_exactly;
      refused = call_refused;
      too_long = too_long;
      accepted = accepted;
      suffices = λ s t x out h. ap (λ (o : Outcome). o.number) (accepted s t x out (omega (arith, longest s t x)));
      put = λ n bytes. refl;
      wrong_span = λ bytes. refl;
    }

pub running_order_lem : RunningOrder
unfolding show_lines
running_order_lem =
    record {
      both_fit = both_fit;
      is_shown = is_shown;
      is_before = is_before;
      unfit = unfit_exactly;
      no_such_date = no_date_exactly;
      listed = λ s t b. listed s t;
      nothing = nothing;
      a_line = a_line;
      lines_none = λ s t. refl;
      lines_more = λ s t i is. refl;
      lines_apart = lines_apart;
      words_apart = words_apart;
      longest = longest;
      dates = date_texts;
      sorting = sorting;
      exhibited = exhibited;
      calls = order_calls;
    }
