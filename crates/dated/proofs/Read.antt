-- The dated read, one law for each way out, and what the calls on the way may rely on.
use mathlib.Core.Path.{◌≡◌, refl, sym, ap, ◌∙◌}
use mathlib.Core.Bool.{Bool, true, false}
use mathlib.Core.List.{List, [], ◌∷◌, ◌++◌, map}
use Prim.Native.Nat.{ℕ, ◌≤◌, ◌<◌}
use native.Mathlib.Omega.{arith}
use lib.ListN.{length}
use borrow.Author.Tests.{eq-eqb, ne_eqb, le-ltb, lt-ltb, leb-false, not-false}
use Rattle.std.specs.Prelude.{Ok, Err}
use Rattle.octets.specs.Bytes.{zeros}
use Rattle.octets.specs.Outcome.{Row, ◌gives◌, decided}
use Rattle.octets.proofs.Outcome.{decided_first, decided_rest}
use Rattle.octets.proofs.Zeros.{length_zeros}
use Rattle.layout.specs.Layout.{edition_of, slots, key_class, mark_length, mark, fit}
use Rattle.layout.specs.Shape.{shape_of, FitSlot}
use Rattle.layout.specs.declared.Shape.{Shape}
use Rattle.layout.proofs.Fits.{fit_facts, fits_header, fits_few}
use Rattle.captions.specs.Answers.{Answer, Outcome, outcome, answer_number, answer_length, answer_point, first_of}
use Rattle.captions.specs.Captions.{Keys, loaded_for, opened}
use Rattle.captions.specs.Calls.{key_tests, span_row, unfit_row, class_row, mark_row, slot_row, blank_row, altered_row}
use Rattle.captions.specs.declared.Refusal.{Refusal}
use Rattle.captions.specs.declared.Refusal.TheVariants.{WrongSpan}
use Rattle.captions.proofs.Tables.{unmet_first, decided_map}
use Rattle.verdicts.proofs.Verdicts.{refused, accepted, passed}
use Rattle.slots.specs.Inner.{slot_shown, Written}
use Rattle.terms.specs.Terms.{fit_terms, on_show}
use Rattle.terms.specs.Inner.{TermsOf}
use Rattle.terms.proofs.Meaning.{reflects_terms}
use Rattle.dated.specs.declared.DatedRefusal.{DatedRefusal}
use Rattle.dated.specs.declared.DatedRefusal.TheVariants.{Read, UnfitTerms, NoSuchDate, NotOnShow}
use Rattle.dated.specs.Calls.{DatedOutcome, dated_number, dated_length, dated_point, of_terms, dated_outcome, DatedAnswer, undated, day_row, show_row, dated_tests, dating_with, dating}
use Rattle.dated.specs.Inner.{shown_rows, fit_rows, accepts, refuses, dated_shown, dated_fit}

-- ---- tests of the undated read in a table of the dated one

module _ (x : DatedOutcome) (f : DatedRefusal → DatedOutcome) (rows : List (Row DatedRefusal)) where
  decided_undated : (tests : List (Row Refusal)) → decided tests (decided rows x f) (λ r. f (Read r)) ≡ decided (map undated tests ++ rows) x f
  unfolding decided undated
  decided_undated [] = refl
  decided_undated ((true gives r) ∷ tests) = refl
  decided_undated ((false gives r) ∷ tests) = decided_undated tests

  module _ (tests : List (Row Refusal)) where
    tests_refuse : (a : Refusal) → Err a ≡ first_of tests → f (Read a) ≡ decided (map undated tests ++ rows) x f
    tests_refuse a e = refused tests (decided rows x f) (λ r. f (Read r)) a e ∙ decided_undated tests

    tests_pass : Ok tt ≡ first_of tests → decided rows x f ≡ decided (map undated tests ++ rows) x f
    tests_pass e = accepted tests (decided rows x f) (λ r. f (Read r)) e ∙ decided_undated tests

-- ---- what the calls rely on

module _ (s : List ℕ) (f : fit s ≡ true) where
  pub header_inside : (edition_of s).header ≤ length s
  header_inside = fits_header s (fit_facts s f)

  pub slot_there : (i : ℕ) → Ok tt ≡ first_of (slot_row s i ∷ []) → FitSlot s i
  slot_there i e = record { fits = f; below = leb-false _ _ (unmet_first (passed (slot_row s i ∷ []) e)) }

  module _ (h : Shape) (q : h ≡ shape_of s) where
    slots_are : h.slots ≡ slots s
    slots_are = ap (λ (x : Shape). x.slots) q ∙ (unfold shape_of in refl)

    pub terms_placed : (t : List ℕ) → fit_terms (slots s) t ≡ true → TermsOf t h.slots
    terms_placed t g =
        rw slots_are
        (record { size = ((reflects_terms (slots s) t).holds g).size; few = omega (arith, fits_few (edition_of s) s (fit_facts s f)) })

    pub slot_below : (i : ℕ) → FitSlot s i → i < h.slots
    slot_below i p = omega (arith, p.below, slots_are)

    pub terms_found : (t : List ℕ) (r : Bool) → r ≡ fit_terms h.slots t → r ≡ true → fit_terms (slots s) t ≡ true
    terms_found t r e p = rw (← slots_are) (sym e ∙ p)

pub written : (s : List ℕ) (i : ℕ) → FitSlot s i → Ok tt ≡ first_of (blank_row (edition_of s) s i ∷ []) → Written s i
written s i p e = record { slot = p; marked = unmet_first (passed (blank_row (edition_of s) s i ∷ []) e) }

-- ---- test 10 and the opening are those of the undated read

dated : Outcome → DatedOutcome
dated o = record { outcome = o; unfit_terms = false }

read_as : Answer → DatedAnswer
read_as (Ok n) = Ok n
read_as (Err r) = Err (Read r)

dated_is : (a : Answer) (bytes : List ℕ) → dated_outcome (read_as a) bytes ≡ dated (outcome a bytes)
unfolding read_as dated dated_outcome dated_number dated_length dated_point of_terms outcome answer_number answer_length answer_point
dated_is (Ok n) bytes = refl
dated_is (Err r) bytes = refl

opens : (k : Keys) (s : List ℕ) (i : ℕ) (a : Answer) (bytes : List ℕ) → outcome a bytes ≡ slot_shown (loaded_for (key_class s) k) s i
    → dated_outcome (read_as a) bytes ≡ decided (undated (altered_row (loaded_for (key_class s) k) (edition_of s) s i) ∷ []) (accepts k s i) refuses
unfolding dated dated_outcome dated_number dated_length dated_point of_terms outcome slot_shown accepts refuses undated decided
opens k s i a bytes o =
    dated_is a bytes
    ∙ ap dated o
    ∙ decided_map dated (altered_row (loaded_for (key_class s) k) (edition_of s) s i ∷ [])
    (outcome (Ok (mark_length (mark (edition_of s) s i))) (opened (loaded_for (key_class s) k) (edition_of s) s i))
    (λ r. outcome (Err r) (zeros 192))

-- ---- 6 9 12 10: the window w is zero

module _ (k : Keys) (s t : List ℕ) (i day : ℕ) where
  past_slot : List (Row DatedRefusal)
  past_slot = undated (blank_row (edition_of s) s i) ∷ show_row s t i day ∷ undated (altered_row (loaded_for (key_class s) k) (edition_of s) s i) ∷ []

  past_blank : List (Row DatedRefusal)
  past_blank = show_row s t i day ∷ undated (altered_row (loaded_for (key_class s) k) (edition_of s) s i) ∷ []

  pub shown_slot : (w : List ℕ) → w ≡ zeros 192 → (a : Refusal) → Err a ≡ first_of (slot_row s i ∷ []) → dated_outcome (Err (Read a)) w ≡ dated_shown k s t i day
  unfolding dated_shown refuses past_slot
  shown_slot w z a e = ap (dated_outcome (Err (Read a))) z ∙ tests_refuse (accepts k s i) refuses past_slot (slot_row s i ∷ []) a e

  module _ (p : Ok tt ≡ first_of (slot_row s i ∷ [])) where
    slot_passed : decided past_slot (accepts k s i) refuses ≡ dated_shown k s t i day
    unfolding dated_shown past_slot
    slot_passed = tests_pass (accepts k s i) refuses past_slot (slot_row s i ∷ []) p

    pub shown_blank : (w : List ℕ) → w ≡ zeros 192 → (a : Refusal) → Err a ≡ first_of (blank_row (edition_of s) s i ∷ []) → dated_outcome (Err (Read a)) w ≡ dated_shown k s t i day
    unfolding refuses past_slot past_blank
    shown_blank w z a e = ap (dated_outcome (Err (Read a))) z ∙ tests_refuse (accepts k s i) refuses past_blank (blank_row (edition_of s) s i ∷ []) a e ∙ slot_passed

    module _ (q : Ok tt ≡ first_of (blank_row (edition_of s) s i ∷ [])) (h : Shape) (y : h ≡ shape_of s) (r : Bool) (n : r ≡ on_show h.slots t i day) where
      blank_passed : decided past_blank (accepts k s i) refuses ≡ dated_shown k s t i day
      unfolding past_slot past_blank
      blank_passed = tests_pass (accepts k s i) refuses past_blank (blank_row (edition_of s) s i ∷ []) q ∙ slot_passed

      show_is : on_show (slots s) t i day ≡ r
      show_is = sym (n ∙ ap (λ (x : Shape). on_show x.slots t i day) y ∙ (unfold shape_of in refl))

      pub shown_off : (w : List ℕ) → w ≡ zeros 192 → r ≡ false → dated_outcome (Err NotOnShow) w ≡ dated_shown k s t i day
      unfolding refuses past_blank
      shown_off w z f = ap (dated_outcome (Err NotOnShow)) z ∙ decided_first _ NotOnShow _ (accepts k s i) refuses (rw (show_is, f)) refl ∙ blank_passed

      shown_made : r ≡ true → (a : Answer) (bytes : List ℕ) → outcome a bytes ≡ slot_shown (loaded_for (key_class s) k) s i → dated_outcome (read_as a) bytes ≡ dated_shown k s t i day
      unfolding past_blank
      shown_made f a bytes o =
          opens k s i a bytes o
          ∙ decided_rest _ NotOnShow _ (accepts k s i) refuses (rw (show_is, f)) refl
          ∙ blank_passed

      pub shown_read : r ≡ true → (n : ℕ) (bytes : List ℕ) → outcome (Ok n) bytes ≡ slot_shown (loaded_for (key_class s) k) s i → dated_outcome (Ok n) bytes ≡ dated_shown k s t i day
      unfolding read_as
      shown_read f n = shown_made f (Ok n)

      pub shown_altered : r ≡ true → (a : Refusal) (bytes : List ℕ) → outcome (Err a) bytes ≡ slot_shown (loaded_for (key_class s) k) s i → dated_outcome (Err (Read a)) bytes ≡ dated_shown k s t i day
      unfolding read_as
      shown_altered f a = shown_made f (Err a)

-- ---- 4 (terms) 5 11 14, and those: r is what was found of the terms

module _ (k : Keys) (s t : List ℕ) (i day : ℕ) (h : Shape) (q : h ≡ shape_of s) (r : Bool) (e : r ≡ fit_terms h.slots t) where
  terms_are : fit_terms (slots s) t ≡ r
  terms_are = sym (e ∙ ap (λ (x : Shape). fit_terms x.slots t) q ∙ (unfold shape_of in refl))

  mark_test : Row Refusal
  mark_test = mark_row (loaded_for (key_class s) k) (edition_of s) s

  past_day : List (Row DatedRefusal)
  past_day = undated mark_test ∷ shown_rows k s t i day

  past_class : List (Row DatedRefusal)
  past_class = day_row day ∷ past_day

  past_terms : List (Row DatedRefusal)
  past_terms = undated (class_row k s) ∷ past_class

  pub fit_terms_lem : (w : List ℕ) → w ≡ zeros 192 → r ≡ false → dated_outcome (Err UnfitTerms) w ≡ dated_fit k s t i day
  unfolding dated_fit refuses
  fit_terms_lem w z f = ap (dated_outcome (Err UnfitTerms)) z ∙ decided_first _ UnfitTerms _ (accepts k s i) refuses (rw (terms_are, f)) refl

  module _ (p : r ≡ true) where
    terms_passed : decided past_terms (accepts k s i) refuses ≡ dated_fit k s t i day
    unfolding dated_fit past_terms past_class past_day mark_test
    terms_passed = decided_rest _ UnfitTerms _ (accepts k s i) refuses (rw (terms_are, p)) refl

    pub fit_class : (w : List ℕ) → w ≡ zeros 192 → (a : Refusal) → Err a ≡ first_of (class_row k s ∷ []) → dated_outcome (Err (Read a)) w ≡ dated_fit k s t i day
    unfolding refuses past_terms
    fit_class w z a g = ap (dated_outcome (Err (Read a))) z ∙ tests_refuse (accepts k s i) refuses past_class (class_row k s ∷ []) a g ∙ terms_passed

    module _ (f : Ok tt ≡ first_of (class_row k s ∷ [])) where
      class_passed : decided past_class (accepts k s i) refuses ≡ dated_fit k s t i day
      unfolding past_terms
      class_passed = tests_pass (accepts k s i) refuses past_class (class_row k s ∷ []) f ∙ terms_passed

      pub fit_late : (w : List ℕ) → w ≡ zeros 192 → 36524 < day → dated_outcome (Err NoSuchDate) w ≡ dated_fit k s t i day
      unfolding refuses past_class
      fit_late w z l = ap (dated_outcome (Err NoSuchDate)) z ∙ decided_first _ NoSuchDate _ (accepts k s i) refuses (lt-ltb 36524 day l) refl ∙ class_passed

      module _ (l : day ≤ 36524) where
        day_passed : decided past_day (accepts k s i) refuses ≡ dated_fit k s t i day
        unfolding past_class
        day_passed = decided_rest _ NoSuchDate _ (accepts k s i) refuses (le-ltb 36524 day l) refl ∙ class_passed

        pub fit_mark : (w : List ℕ) → w ≡ zeros 192 → (a : Refusal) → Err a ≡ first_of (mark_row (loaded_for (key_class s) k) (edition_of s) s ∷ []) → dated_outcome (Err (Read a)) w ≡ dated_fit k s t i day
        unfolding refuses past_day mark_test
        fit_mark w z a d = ap (dated_outcome (Err (Read a))) z ∙ tests_refuse (accepts k s i) refuses (shown_rows k s t i day) (mark_test ∷ []) a d ∙ day_passed

        pub fit_shown : Ok tt ≡ first_of (mark_row (loaded_for (key_class s) k) (edition_of s) s ∷ []) → (o : DatedOutcome) → o ≡ dated_shown k s t i day → o ≡ dated_fit k s t i day
        unfolding dated_shown past_day mark_test
        fit_shown p o n = n ∙ tests_pass (accepts k s i) refuses (shown_rows k s t i day) (mark_test ∷ []) p ∙ day_passed

-- ---- 1 2 3 4, and those: the window became w, which is zero

module _ (k : Keys) (s t window w : List ℕ) (i day : ℕ) (g : w ≡ zeros (length window)) where
  size : length w ≡ length window
  size = ap length g ∙ length_zeros (length window)

  refuse : DatedRefusal → DatedOutcome
  refuse r = dated_outcome (Err r) (zeros (length window))

  past_span : List (Row DatedRefusal)
  past_span = undated (unfit_row (edition_of s) s) ∷ fit_rows k s t i day

  past_keys : List (Row DatedRefusal)
  past_keys = undated (span_row (length window)) ∷ past_span

  dating_is : decided (map undated (key_tests k) ++ past_keys) (accepts k s i) refuse ≡ dating k s t i day window
  unfolding dating dating_with dated_tests past_keys past_span accepts refuse
  dating_is = refl

  pub dated_keys : (a : Refusal) → Err a ≡ first_of (key_tests k) → dated_outcome (Err (Read a)) w ≡ dating k s t i day window
  unfolding refuse
  dated_keys a e = ap (dated_outcome (Err (Read a))) g ∙ tests_refuse (accepts k s i) refuse past_keys (key_tests k) a e ∙ dating_is

  module _ (p : Ok tt ≡ first_of (key_tests k)) where
    keys_passed : decided past_keys (accepts k s i) refuse ≡ dating k s t i day window
    keys_passed = tests_pass (accepts k s i) refuse past_keys (key_tests k) p ∙ dating_is

    pub dated_span : (length w ≡ 192 → ⊥) → dated_outcome (Err (Read WrongSpan)) w ≡ dating k s t i day window
    unfolding refuse past_keys undated
    dated_span l =
        ap (dated_outcome (Err (Read WrongSpan))) g
        ∙ decided_first _ (Read WrongSpan) _ (accepts k s i) refuse (rw (ne_eqb (length window) 192 (λ q. l (size ∙ q)))) refl
        ∙ keys_passed

    module _ (l : length w ≡ 192) where
      span_passed : decided past_span (accepts k s i) refuse ≡ dating k s t i day window
      unfolding past_keys undated
      span_passed = decided_rest _ (Read WrongSpan) _ (accepts k s i) refuse (rw (eq-eqb (length window) 192 (sym size ∙ l))) refl ∙ keys_passed

      pub dated_unfit : (a : Refusal) → Err a ≡ first_of (unfit_row (edition_of s) s ∷ []) → dated_outcome (Err (Read a)) w ≡ dating k s t i day window
      unfolding refuse past_span
      dated_unfit a e =
          ap (dated_outcome (Err (Read a))) g
          ∙ tests_refuse (accepts k s i) refuse (fit_rows k s t i day) (unfit_row (edition_of s) s ∷ []) a e
          ∙ span_passed

      pub dated_fit_lem : Ok tt ≡ first_of (unfit_row (edition_of s) s ∷ []) → (o : DatedOutcome) → o ≡ dated_fit k s t i day → o ≡ dating k s t i day window
      unfolding dated_fit refuses refuse past_span
      dated_fit_lem h o n =
          n
          ∙ ap (λ (m : ℕ). decided (fit_rows k s t i day) (accepts k s i) (λ r. dated_outcome (Err r) (zeros m))) (sym (sym size ∙ l))
          ∙ tests_pass (accepts k s i) refuse (fit_rows k s t i day) (unfit_row (edition_of s) s ∷ []) h
          ∙ span_passed

pub window_zero : (window w : List ℕ) → w ≡ zeros (length window) → length w ≡ 192 → w ≡ zeros 192
window_zero window w g l = g ∙ ap zeros (sym (ap length g ∙ length_zeros (length window)) ∙ l)

pub sheet_fits : (s : List ℕ) → Ok tt ≡ first_of (unfit_row (edition_of s) s ∷ []) → fit s ≡ true
unfolding fit
sheet_fits s e = not-false _ (unmet_first (passed _ e))
