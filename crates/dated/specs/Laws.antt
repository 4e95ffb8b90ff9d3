-- What is proved of the dated read: exactly which calls it refuses, and how it stands to the undated read.
use Rattle.std.specs.Prelude.{ℕ, ◌≤◌, ◌<◌, ◌≡◌, true, false, List, [], ◌∷◌, ◌↔◌, ◌⊎◌, length, replicate}
use Rattle.octets.specs.Bytes.{zeros}
use Rattle.octets.specs.Clauses.{Clause, ◌when◌, Exactly, Each}
use Rattle.layout.specs.Layout.{edition_of, slots, key_class}
use Rattle.layout.specs.Rules.{KeyFits, IsBlank, MeetsLayout}
use Rattle.captions.specs.Captions.{Keys, loaded_for}
use Rattle.captions.specs.Calls.{reading}
use Rattle.captions.specs.Refusals.{RightKeys, OtherMark, IsAltered, Leaves}
use Rattle.terms.specs.Terms.{opening, closing}
use Rattle.terms.specs.Rules.{MeetsTerms, OnShow}
use Rattle.terms.specs.Laws.{term_sheet}
use Rattle.dated.specs.Calls.{dating}

-- ---- the clauses, in the order of the tests

unfoldable pub dated_clauses : Keys → List ℕ → List ℕ → ℕ → ℕ → List ℕ → List Clause
dated_clauses k s t i day window =
    (1 when (RightKeys k → ⊥))
    ∷ (2 when (k.sealing ≡ k.checking))
    ∷ (3 when (length window ≡ 192 → ⊥))
    ∷ (4 when (MeetsLayout s → ⊥))
    ∷ (4 when (MeetsTerms (slots s) t → ⊥))
    ∷ (5 when (KeyFits (length k.sealing) (key_class s) → ⊥))
    ∷ (11 when (36524 < day))
    ∷ (14 when OtherMark (loaded_for (key_class s) k) s)
    ∷ (6 when (slots s ≤ i))
    ∷ (9 when IsBlank (edition_of s) s i)
    ∷ (12 when (OnShow (slots s) t i day → ⊥))
    ∷ (10 when IsAltered (loaded_for (key_class s) k) (edition_of s) s i)
    ∷ []

-- ---- beside the undated read

-- u is no refusal from 1 to m
abbrev pub NoneTo : ℕ → ℕ → Type 0
NoneTo m u = 1 ≤ u → m < u

module _ (k : Keys) (s t : List ℕ) (i day : ℕ) (window : List ℕ) where
  -- the number of the undated read of the same keys, sheet, slot and window
  abbrev pub undated_number : ℕ
  undated_number = (reading k s i window).number

  pub record TermsRefuse : Type 0 where
    pub unfit : MeetsTerms (slots s) t → ⊥
    pub undated : NoneTo 4 undated_number

  pub record DateRefuses : Type 0 where
    pub terms : MeetsTerms (slots s) t
    pub late : 36524 < day
    pub undated : NoneTo 5 undated_number

  pub record ShowRefuses : Type 0 where
    pub terms : MeetsTerms (slots s) t
    pub in_time : day ≤ 36524
    pub off : OnShow (slots s) t i day → ⊥
    pub undated : (undated_number ≡ 0) ⊎ (undated_number ≡ 10)

  pub record BesideUndated : Type 0 where
    -- 4 for the terms, 11 and 12, each exactly there
    pub unfit_terms : ((dating k s t i day window).unfit_terms ≡ true) ↔ TermsRefuse
    pub no_date : ((dating k s t i day window).outcome.number ≡ 11) ↔ DateRefuses
    pub off_show : ((dating k s t i day window).outcome.number ≡ 12) ↔ ShowRefuses
    pub number_4 : (dating k s t i day window).unfit_terms ≡ true → (dating k s t i day window).outcome.number ≡ 4
    -- a dated read that meets none of the three answers what the undated read answers: number, length and window
    pub else_undated : (dating k s t i day window).unfit_terms ≡ false
        → ((dating k s t i day window).outcome.number ≡ 11 → ⊥)
        → ((dating k s t i day window).outcome.number ≡ 12 → ⊥)
        → (dating k s t i day window).outcome ≡ reading k s i window

  -- what the three records come to: they ask for no more, and say no less
  pub record RefusalsAre : Type 0 where
    pub for_terms : TermsRefuse ↔ ((MeetsTerms (slots s) t → ⊥) × ((undated_number ≡ 0) ⊎ (4 < undated_number)))
    pub for_date : DateRefuses ↔ (MeetsTerms (slots s) t × (36524 < day) × ((undated_number ≡ 0) ⊎ (5 < undated_number)))
    pub for_show : ShowRefuses
        ↔ (MeetsTerms (slots s) t × (day ≤ 36524) × ((day < opening t i) ⊎ (closing (slots s) t i < day)) × ((undated_number ≡ 0) ⊎ (undated_number ≡ 10)))

-- ---- calls that answer n

pub record DatedOf (n : ℕ) : Type 0 where
  pub keys : Keys
  pub sheet : List ℕ
  pub terms : List ℕ
  pub slot : ℕ
  pub day : ℕ
  pub window : List ℕ
  pub answers : (dating keys sheet terms slot day window).outcome.number ≡ n

-- a call that is refused for its terms
pub record TermsMet : Type 0 where
  pub keys : Keys
  pub sheet : List ℕ
  pub terms : List ℕ
  pub slot : ℕ
  pub day : ℕ
  pub window : List ℕ
  pub refused_for_terms : (dating keys sheet terms slot day window).unfit_terms ≡ true

-- terms of n slots from the first day to the last
unfoldable pub always_open : ℕ → List ℕ
always_open n = term_sheet (replicate n 0) (replicate n 36524)

-- ---- the statement, with no premise on a test

pub record DatedReads : Type 0 where
  -- a call answers a number exactly if its proposition holds and no earlier one does, and 0 exactly if none holds
  pub read : (k : Keys) (s t : List ℕ) (i day : ℕ) (window : List ℕ) → Exactly (dating k s t i day window).outcome.number (dated_clauses k s t i day window)
  -- a refusal zeroes the window, whatever its length
  pub refused : (k : Keys) (s t : List ℕ) (i day : ℕ) (window : List ℕ) → ((dating k s t i day window).outcome.number ≡ 0 → ⊥)
      → Leaves (dating k s t i day window).outcome (zeros (length window))
  -- a dated outcome is the undated one or one of three refusals, and which is said exactly
  pub beside : (k : Keys) (s t : List ℕ) (i day : ℕ) (window : List ℕ) → BesideUndated k s t i day window
  pub refusals : (k : Keys) (s t : List ℕ) (i day : ℕ) (window : List ℕ) → RefusalsAre k s t i day window
  -- no day lies in a term whose opening is above its closing
  pub never : (n : ℕ) (t : List ℕ) (i day : ℕ) → closing n t i < opening t i → OnShow n t i day → ⊥
  -- a read on a day from the slot's opening to its closing, a term of one day among them, is the undated read, accepted or altered
  pub in_term : (k : Keys) (s t : List ℕ) (i day : ℕ) (window : List ℕ) → MeetsTerms (slots s) t → day ≤ 36524 → opening t i ≤ day → day ≤ closing (slots s) t i
      → (dating k s t i day window).outcome ≡ reading k s i window
  pub one_day : (k : Keys) (s t : List ℕ) (i day : ℕ) (window : List ℕ) → MeetsTerms (slots s) t → day ≤ 36524 → opening t i ≡ day → closing (slots s) t i ≡ day
      → (dating k s t i day window).outcome ≡ reading k s i window
  -- by terms that are always open a read on any day is the undated read, accepted or altered
  pub opened : (k : Keys) (s : List ℕ) (i day : ℕ) (window : List ℕ) → MeetsLayout s → i < slots s → day ≤ 36524
      → (dating k s (always_open (slots s)) i day window).outcome ≡ reading k s i window
  -- each of the other numbers can be met, 4 by either sheet
  pub reads : Each DatedOf (1 ∷ 2 ∷ 3 ∷ 4 ∷ 5 ∷ 11 ∷ 14 ∷ 6 ∷ 9 ∷ 12 ∷ [])
  pub terms_met : TermsMet
