-- Which text is printed, exactly: no line begins as a note does.
use Prim.Native.Nat.{ℕ, suc, ◌≤◌, ◌<◌}
use mathlib.Core.Path.{◌≡◌, refl, sym, ap, ◌∙◌}
use mathlib.Core.Bool.{Bool, true, false, ◌&&◌}
use mathlib.Core.List.{List, [], ◌∷◌, ◌++◌}
use mathlib.Core.Logic.{◌↔◌}
use native.Mathlib.Omega.{arith}
use lib.Dec.{eqb}
use lib.ListN.{length, get_or}
use Rattle.octets.proofs.Clauses.{Reflects, reflects_not, reflects_and, reflects_as, reflects_yes, reflects_no}
use Rattle.layout.specs.Layout.{slots, edition_of, mark_length, mark, fit}
use Rattle.layout.specs.Rules.{IsBlank}
use Rattle.layout.proofs.Fits.{fit_facts}
use Rattle.layout.proofs.Meaning.{reflects_blank, reflects_fit}
use Rattle.terms.specs.Terms.{opening, closing, fit_terms}
use Rattle.terms.specs.Rules.{OnShow}
use Rattle.terms.proofs.Meaning.{reflects_terms, reflects_show}
use Rattle.dates.specs.DateText.{day_text, day_of_text}
use Rattle.dates.specs.Laws.{NoDateText}
use Rattle.dates.proofs.Dates.{IsDateText, reflects_text}
use Rattle.listing.specs.Ascii.{ascii}
use Rattle.listing.specs.Listing.{decimal}
use Rattle.listing.proofs.Decimal.{length_decimal_pos}
use Rattle.listing.proofs.Printed.{printed}
use Rattle.running_order.specs.Order.{shown, in_order, show_line, show_lines, running_order}
use Rattle.running_order.specs.Laws.{BothFit}
use Rattle.running_order.proofs.Apart.{a_line}

-- ---- what the tests mean

pub reflects_both : (s t : List ℕ) → Reflects (fit s && fit_terms (slots s) t) (BothFit s t)
reflects_both s t =
    reflects_as (λ h. record { sheet = h.0; terms = h.1 }) (λ h. (h.sheet, h.terms)) (reflects_and (reflects_fit s) (reflects_terms (slots s) t))

pub reflects_shown : (s t : List ℕ) (day i : ℕ) → fit s ≡ true → i < slots s → Reflects (shown s t day i) ((IsBlank (edition_of s) s i → ⊥) × OnShow (slots s) t i day)
unfolding shown
reflects_shown s t day i f l = reflects_and (reflects_not (reflects_blank (edition_of s) s (fit_facts s f) i l)) (reflects_show (slots s) t i day)

-- ---- a line begins with a digit

first_of : (d x y z : List ℕ) → 0 < length d → get_or (((d ++ x) ++ y) ++ z) 0 0 ≡ get_or d 0 0
first_of [] x y z h = absurd (omega arith)
first_of (c ∷ d) x y z h = refl

module _ (s t : List ℕ) where
  line_first : (i : ℕ) (r : List ℕ) → get_or (show_line s t i ++ r) 0 0 < 58
  line_first i r =
      let after : List ℕ = 32 ∷ (day_text (opening t i) ++ (32 ∷ (day_text (closing (slots s) t i) ++ (32 ∷ decimal (mark_length (mark (edition_of s) s i)))))) in
      rw (a_line s t i) (omega (arith, first_of (decimal i) after (10 ∷ []) r (length_decimal_pos i), (printed.digits_are i 0 (length_decimal_pos i)).1))

  lines_differ : (js : List ℕ) (c : ℕ) (w : List ℕ) → 58 ≤ c → show_lines s t js ≡ c ∷ w → ⊥
  unfolding show_lines
  lines_differ [] c w h e = let q : 0 ≡ suc (length w) = ap length e in omega arith
  lines_differ (j ∷ js) c w h e =
      let q : get_or (show_line s t j ++ show_lines s t js) 0 0 ≡ c = ap (λ (l : List ℕ). get_or l 0 0) e in
      omega (arith, line_first j (show_lines s t js))

  -- ---- the three ways

  module _ (x : List ℕ) where
    order_unfit : (BothFit s t → ⊥) → running_order s t x ≡ ascii "unfit\n"
    unfolding running_order
    order_unfit n = rw (reflects_no (reflects_both s t) n)

    module _ (f : BothFit s t) where
      order_no_date : (IsDateText x → ⊥) → running_order s t x ≡ ascii "no such date\n"
      unfolding running_order
      order_no_date n = rw (reflects_yes (reflects_both s t) f, reflects_no (reflects_text x) n)

      pub order_lines : IsDateText x → running_order s t x ≡ show_lines s t (in_order s t (day_of_text x).day)
      unfolding running_order
      order_lines d = rw (reflects_yes (reflects_both s t) f, reflects_yes (reflects_text x) d)

      is_unfit_not : running_order s t x ≡ ascii "unfit\n" → ⊥
      is_unfit_not e = go (eqb (day_of_text x).number 0) refl
        where
          go : (b : Bool) → eqb (day_of_text x).number 0 ≡ b → ⊥
          go true q = lines_differ (in_order s t (day_of_text x).day) 117 (ascii "nfit\n") (omega arith) (sym (order_lines ((reflects_text x).holds q)) ∙ e)
          go false q =
              let w : ◌≡◌ {A = ℕ} 110 117 = ap (λ (l : List ℕ). get_or l 0 0) (sym (order_no_date ((reflects_text x).fails q)) ∙ e) in
              omega arith

      pub no_date_exactly : (running_order s t x ≡ ascii "no such date\n") ↔ NoDateText x
      no_date_exactly = (
        λ e y m d h p.
            lines_differ (in_order s t (day_of_text x).day) 110 (ascii "o such date\n") (omega arith)
            (sym (order_lines (record { year = y; month = m; day = d; is_date_lem = h; text = p })) ∙ e),
        λ n. order_no_date (λ d. n d.year d.month d.day d.is_date_lem d.text),
      )

    pub unfit_exactly : (running_order s t x ≡ ascii "unfit\n") ↔ (BothFit s t → ⊥)
    unfit_exactly = ((λ e f. is_unfit_not f e), order_unfit)
