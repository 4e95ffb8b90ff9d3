-- Laws of the whole running order, one for each way out of a function that makes it.
use Rattle.std.specs.Prelude.{Option, Some, None}
use Prim.Native.Nat.{ℕ, ◌≤◌, ◌<◌}
use mathlib.Core.Path.{◌≡◌, sym, ap, ◌∙◌, subst}
use mathlib.Core.Bool.{Bool, true, false}
use mathlib.Core.List.{List}
use native.Mathlib.Decide.{dec_lt}
use native.Mathlib.Omega.{arith}
use borrow.Author.Tests.{lt-ltb, le-ltb}
use lib.ListN.{length, take}
use lib.Seq.{length-take-le}
use Rattle.octets.specs.Bytes.{put}
use Rattle.octets.specs.Outcome.{Outcome, decided}
use Rattle.octets.proofs.Parts.{length_put}
use Rattle.calendar.specs.Answers.{day_outcome}
use Rattle.layout.specs.declared.Shape.{Shape}
use Rattle.layout.specs.Layout.{slots, fit, edition_of}
use Rattle.layout.specs.Shape.{shape_of, SheetOf}
use Rattle.layout.proofs.Fits.{Fits, fit_facts, fits_sheet, fits_header}
use Rattle.terms.specs.Terms.{fit_terms}
use Rattle.terms.specs.Inner.{TermsOf}
use Rattle.terms.proofs.Meaning.{reflects_terms}
use Rattle.listing.specs.Ascii.{ascii}
use Rattle.dates.specs.DateText.{day_of_text}
use Rattle.running_order.specs.Order.{in_order, show_lines, running_order}
use Rattle.running_order.specs.Calls.{order_outcome, order_tests, ordering}
use Rattle.running_order.specs.Inner.{OpenDays}

-- r is what was found of the caption sheet
module _ (s t x : List ℕ) (r : Bool) (e : r ≡ fit s) where
  pub unfit_put : r ≡ false → (m : List ℕ) → m ≡ ascii "unfit\n" → m ≡ running_order s t x
  unfolding running_order
  unfit_put f m p = p ∙ rw (← e, f)

  module _ (f : r ≡ true) where
    fits : Fits s
    fits = fit_facts s (sym e ∙ f)

    pub sheet_header : (edition_of s).header ≤ length s
    sheet_header = fits_header s fits

    -- h is the shape that was read, and q what was found of the term sheet
    module _ (h : Shape) (g : h ≡ shape_of s) where
      pub sheet_of : SheetOf s h
      sheet_of = rw g (fits_sheet s fits)

      slots_of : h.slots ≡ slots s
      unfolding shape_of
      slots_of = ap (λ (k : Shape). k.slots) g

      module _ (q : Bool) (u : q ≡ fit_terms h.slots t) where
        pub unfit_terms_put : q ≡ false → (m : List ℕ) → m ≡ ascii "unfit\n" → m ≡ running_order s t x
        unfolding running_order
        unfit_terms_put v m p = p ∙ rw (← e, f, ← slots_of, ← u, v)

        module _ (v : q ≡ true) where
          pub terms_of : TermsOf t h.slots
          terms_of =
              record { size = ((reflects_terms h.slots t).holds (sym u ∙ v)).size; few = omega (arith, sheet_of.small.1) }

          pub open_days : OpenDays t h.slots
          open_days = record { opens = ((reflects_terms h.slots t).holds (sym u ∙ v)).openings }

          -- d is what was found of the date
          module _ (d : Option ℕ) (w : day_outcome d ≡ day_of_text x) where
            pub no_date_put : d ≡ None → (m : List ℕ) → m ≡ ascii "no such date\n" → m ≡ running_order s t x
            unfolding running_order day_outcome
            no_date_put y m p = p ∙ rw (← e, f, ← slots_of, ← u, v, ← w, y)

            pub order_made : (day k : ℕ) → d ≡ Some day → k ≡ day → (m : List ℕ) → m ≡ show_lines s t (in_order s t k) → m ≡ running_order s t x
            unfolding running_order day_outcome
            order_made day k y z m p = p ∙ rw (← e, f, ← slots_of, ← u, v, ← w, y, z)

-- ---- the text m copied to the output

module _ (s t x out m : List ℕ) (p : m ≡ running_order s t x) where
  pub order_span : length out < length m → order_outcome None out ≡ ordering s t x out
  unfolding ordering order_tests decided
  order_span h = rw (← p, lt-ltb (length out) (length m) h)

  pub order_put : length m ≤ length out → (y : List ℕ) → y ≡ put out 0 m → order_outcome (Some (length m)) y ≡ ordering s t x out
  unfolding ordering order_tests decided
  order_put h y e = rw (← p, le-ltb (length out) (length m) h, e)

-- what is put is within the output
put_fits : (s t x out : List ℕ) → (ordering s t x out).len ≤ length (ordering s t x out).bytes
unfolding ordering order_tests decided order_outcome
put_fits s t x out =
    elim (dec_lt (length out) (length (running_order s t x))) [
      | yes l ↦ rw (lt-ltb (length out) (length (running_order s t x)) l) (omega arith)
      | no l ↦
          let g : length (running_order s t x) ≤ length out = omega arith in
          rw (le-ltb (length out) (length (running_order s t x)) g, length_put out (running_order s t x) 0 (omega arith)) g
    ]

module _ (s t x out y : List ℕ) (a : Option ℕ) (e : order_outcome a y ≡ ordering s t x out) (n : ℕ) (f : a ≡ Some n) where
  pub put_within : n ≤ length y
  unfolding order_outcome
  put_within =
      subst (λ (o : Outcome). o.len ≤ length o.bytes) (sym (ap (λ (b : Option ℕ). order_outcome b y) (sym f) ∙ e)) (put_fits s t x out)

  pub put_count : n ≡ length (take n y)
  put_count = sym (length-take-le n y put_within)
