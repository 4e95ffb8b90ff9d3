-- The dated read (document 02, request 1): its tests in their order, and what it answers and leaves behind.
use Rattle.std.specs.Prelude.{ℕ, Bool, true, false, not, List, [], ◌∷◌, ◌++◌, map, ltb, length, Result, Ok, Err}
use Rattle.octets.specs.Bytes.{zeros}
use Rattle.octets.specs.Outcome.{Row, ◌gives◌, decided}
use Rattle.layout.specs.Layout.{Edition, edition_of, slots, key_class, mark_length, mark}
use Rattle.faults.specs.Faults.{Point, point}
use Rattle.captions.specs.Answers.{Outcome, answer_number, answer_length, answer_point}
use Rattle.captions.specs.Captions.{Keys, Ciphers, loaded_for, opened}
use Rattle.captions.specs.Calls.{key_tests, span_row, unfit_row, class_row, mark_row, slot_row, blank_row, altered_row}
use Rattle.captions.specs.declared.Refusal.{Refusal}
use Rattle.terms.specs.Terms.{fit_terms, on_show}
use Rattle.dated.specs.declared.DatedRefusal.{DatedRefusal}
use Rattle.dated.specs.declared.DatedRefusal.TheVariants.{Read, UnfitTerms, NoSuchDate, NotOnShow}

-- ---- the answers: their numbers and lengths, and what they point at

-- what a dated read answers: the paper's length, or why it is refused
abbrev pub DatedAnswer : Type 0
DatedAnswer = Result ℕ DatedRefusal

unfoldable pub dated_number : DatedAnswer → ℕ
dated_number (Ok n) = answer_number (Ok n)
dated_number (Err (Read r)) = answer_number (Err r)
dated_number (Err UnfitTerms) = 4
dated_number (Err NoSuchDate) = 11
dated_number (Err NotOnShow) = 12

unfoldable pub dated_length : DatedAnswer → ℕ
dated_length (Ok n) = answer_length (Ok n)
dated_length (Err (Read r)) = answer_length (Err r)
dated_length (Err UnfitTerms) = 0
dated_length (Err NoSuchDate) = 0
dated_length (Err NotOnShow) = 0

-- rule 12 is that of the term sheet (document 02, request 5)
unfoldable pub dated_point : DatedAnswer → Point
dated_point (Ok n) = answer_point (Ok n)
dated_point (Err (Read r)) = answer_point (Err r)
dated_point (Err UnfitTerms) = point 12 0 0
dated_point (Err NoSuchDate) = point 0 0 0
dated_point (Err NotOnShow) = point 0 0 0

-- 4 is the number of both sheets: whether it is the term sheet's
unfoldable pub of_terms : DatedAnswer → Bool
of_terms (Ok n) = false
of_terms (Err (Read r)) = false
of_terms (Err UnfitTerms) = true
of_terms (Err NoSuchDate) = false
of_terms (Err NotOnShow) = false

pub record DatedOutcome : Type 0 where
  pub outcome : Outcome
  pub unfit_terms : Bool

-- an answer and the window after the call
unfoldable pub dated_outcome : DatedAnswer → List ℕ → DatedOutcome
dated_outcome a bytes =
    record {
      outcome = record { number = dated_number a; len = dated_length a; points = dated_point a; bytes = bytes };
      unfit_terms = of_terms a;
    }

-- ---- the tests

-- a test of the undated read
unfoldable pub undated : Row Refusal → Row DatedRefusal
undated (t gives r) = t gives Read r

-- 4, of the term sheet t, with the n of the caption sheet s
abbrev pub terms_row : List ℕ → List ℕ → Row DatedRefusal
terms_row s t = not (fit_terms (slots s) t) gives UnfitTerms

-- 11
abbrev pub day_row : ℕ → Row DatedRefusal
day_row day = ltb 36524 day gives NoSuchDate

-- 12
abbrev pub show_row : List ℕ → List ℕ → ℕ → ℕ → Row DatedRefusal
show_row s t i day = not (on_show (slots s) t i day) gives NotOnShow

-- dated read: 1 2 3 4 4 (terms) 5 11 14 6 9 12 10
unfoldable pub dated_tests : Edition → Ciphers → Keys → List ℕ → List ℕ → ℕ → ℕ → List ℕ → List (Row DatedRefusal)
dated_tests e x k s t i day window =
    map undated (key_tests k)
    ++ (undated (span_row (length window))
    ∷ undated (unfit_row e s)
    ∷ terms_row s t
    ∷ undated (class_row k s)
    ∷ day_row day
    ∷ undated (mark_row x e s)
    ∷ undated (slot_row s i)
    ∷ undated (blank_row e s i)
    ∷ show_row s t i day
    ∷ undated (altered_row x e s i)
    ∷ [])

-- ---- the call: a refusal makes the window zero, whatever its length

unfoldable pub dating_with : Edition → Ciphers → Keys → List ℕ → List ℕ → ℕ → ℕ → List ℕ → DatedOutcome
dating_with e x k s t i day window =
    decided (dated_tests e x k s t i day window)
    (dated_outcome (Ok (mark_length (mark e s i))) (opened x e s i))
    (λ r. dated_outcome (Err r) (zeros (length window)))

unfoldable pub dating : Keys → List ℕ → List ℕ → ℕ → ℕ → List ℕ → DatedOutcome
dating k s t i day window = dating_with (edition_of s) (loaded_for (key_class s) k) k s t i day window
