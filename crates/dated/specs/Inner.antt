-- What the contracts of inner functions cite: what a dated read comes to once its first tests are passed.
use Rattle.std.specs.Prelude.{ℕ, List, [], ◌∷◌, Ok, Err}
use Rattle.octets.specs.Bytes.{zeros}
use Rattle.octets.specs.Outcome.{Row, decided}
use Rattle.layout.specs.Layout.{edition_of, key_class, mark_length, mark}
use Rattle.captions.specs.Captions.{Keys, loaded_for, opened}
use Rattle.captions.specs.Calls.{class_row, mark_row, slot_row, blank_row, altered_row}
use Rattle.dated.specs.declared.DatedRefusal.{DatedRefusal}
use Rattle.dated.specs.Calls.{DatedOutcome, dated_outcome, undated, terms_row, day_row, show_row}

-- 6 9 12 10
abbrev pub shown_rows : Keys → List ℕ → List ℕ → ℕ → ℕ → List (Row DatedRefusal)
shown_rows k s t i day =
    undated (slot_row s i)
    ∷ undated (blank_row (edition_of s) s i)
    ∷ show_row s t i day
    ∷ undated (altered_row (loaded_for (key_class s) k) (edition_of s) s i)
    ∷ []

-- 4 (terms) 5 11 14, and those
abbrev pub fit_rows : Keys → List ℕ → List ℕ → ℕ → ℕ → List (Row DatedRefusal)
fit_rows k s t i day = terms_row s t ∷ undated (class_row k s) ∷ day_row day ∷ undated (mark_row (loaded_for (key_class s) k) (edition_of s) s) ∷ shown_rows k s t i day

-- an accepted read, and a refused one with a window of 192 bytes
unfoldable pub accepts : Keys → List ℕ → ℕ → DatedOutcome
accepts k s i =
    dated_outcome (Ok (mark_length (mark (edition_of s) s i))) (opened (loaded_for (key_class s) k) (edition_of s) s i)

unfoldable pub refuses : DatedRefusal → DatedOutcome
refuses r = dated_outcome (Err r) (zeros 192)

unfoldable pub dated_shown : Keys → List ℕ → List ℕ → ℕ → ℕ → DatedOutcome
dated_shown k s t i day = decided (shown_rows k s t i day) (accepts k s i) refuses

unfoldable pub dated_fit : Keys → List ℕ → List ℕ → ℕ → ℕ → DatedOutcome
dated_fit k s t i day = decided (fit_rows k s t i day) (accepts k s i) refuses
