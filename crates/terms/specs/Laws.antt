-- What is proved of term sheets: each test means what document 02 says, and every list of terms has its sheet.
use Rattle.std.specs.Prelude.{ℕ, ◌+◌, ◌*◌, ◌≤◌, ◌<◌, ◌≡◌, true, false, List, [], ◌∷◌, ◌++◌, map, ◌↔◌, length, get_or}
use Rattle.octets.specs.Bytes.{Bytes, be}
use Rattle.terms.specs.Terms.{count, opening, closing, fit_terms, on_show}
use Rattle.terms.specs.Rules.{MeetsTerms, OnShow}

-- days, 2 bytes each
unfoldable pub day_bytes : List ℕ → List ℕ
day_bytes [] = []
day_bytes (day ∷ days) = be 2 day ++ day_bytes days

-- first n, then the array of opening days, then the array of closing days
unfoldable pub term_sheet : List ℕ → List ℕ → List ℕ
term_sheet openings closings = be 2 (length openings) ++ (day_bytes openings ++ day_bytes closings)

-- as many openings as closings, for up to 256 slots, and no day above the last
pub record Days (openings closings : List ℕ) : Type 0 where
  pub as_many : length closings ≡ length openings
  pub few : length openings ≤ 256
  pub opening_days : (i : ℕ) → get_or openings i 0 ≤ 36524
  pub closing_days : (i : ℕ) → get_or closings i 0 ≤ 36524

-- t is the term sheet of the days of n slots
pub record TermsOfDays (n : ℕ) (t : List ℕ) : Type 0 where
  pub openings : List ℕ
  pub closings : List ℕ
  pub days : Days openings closings
  pub of_n : length openings ≡ n
  pub is : t ≡ term_sheet openings closings

-- the term sheet of such days is fit, and has those days
pub record Stored (openings closings : List ℕ) : Type 0 where
  pub fits : fit_terms (length openings) (term_sheet openings closings) ≡ true
  pub opens : (i : ℕ) → i < length openings → opening (term_sheet openings closings) i ≡ get_or openings i 0
  pub closes : (i : ℕ) → i < length openings → closing (length openings) (term_sheet openings closings) i ≡ get_or closings i 0

-- two slots: days 258 to 36524, and 3, which is after 2
abbrev pub two_terms : List ℕ
two_terms = 0 ∷ 2 ∷ 1 ∷ 2 ∷ 0 ∷ 3 ∷ 142 ∷ 172 ∷ 0 ∷ 2 ∷ []

-- one slot, on show on day 5 alone
abbrev pub fifth_day : List ℕ
fifth_day = 0 ∷ 1 ∷ 0 ∷ 5 ∷ 0 ∷ 5 ∷ []

pub record TermSheets : Type 0 where
  -- fit, for any n and any bytes, exactly if no rule is broken
  pub fit : (n : ℕ) (t : List ℕ) → (fit_terms n t ≡ true) ↔ MeetsTerms n t
  -- the rules are these and no others: that n, that length, and no day above the last
  pub meets : (n : ℕ) (t : List ℕ) → MeetsTerms n t
      ↔ ((count t ≡ n) × (length t ≡ 2 + 4 * n) × ((i : ℕ) → i < n → (opening t i ≤ 36524) × (closing n t i ≤ 36524)))
  -- on show exactly if opening ≤ day ≤ closing
  pub shown : (n : ℕ) (t : List ℕ) (i day : ℕ) → (on_show n t i day ≡ true) ↔ OnShow n t i day
  pub on_show_lem : (n : ℕ) (t : List ℕ) (i day : ℕ) → OnShow n t i day ↔ ((opening t i ≤ day) × (day ≤ closing n t i))
  -- a term of one day is on show on that day, and on no other
  pub one_day : (n : ℕ) (t : List ℕ) (i day : ℕ) → opening t i ≡ day → closing n t i ≡ day → on_show n t i day ≡ true
  pub no_other_day : (n : ℕ) (t : List ℕ) (i day other : ℕ) → opening t i ≡ day → closing n t i ≡ day → (other ≡ day → ⊥) → on_show n t i other ≡ false
  -- opening above closing means never
  pub never : (n : ℕ) (t : List ℕ) (i day : ℕ) → closing n t i < opening t i → on_show n t i day ≡ false
  -- every list of terms has its sheet, and no other bytes are one; what is asked of bytes and of days, and no more
  pub stored : (openings closings : List ℕ) → Days openings closings → Stored openings closings
  pub only : (n : ℕ) (t : List ℕ) → n ≤ 256 → Bytes t → fit_terms n t ≡ true → TermsOfDays n t
  pub bytes : (t : List ℕ) → Bytes t ↔ ((i : ℕ) → i < length t → get_or t i 0 < 256)
  pub days : (openings closings : List ℕ) → Days openings closings
      ↔ ((length closings ≡ length openings) × (length openings ≤ 256) × ((i : ℕ) → (get_or openings i 0 ≤ 36524) × (get_or closings i 0 ≤ 36524)))
  -- n, openings and closings of a term sheet of two slots, byte by byte
  pub two_count : count two_terms ≡ 2
  pub two_openings : ◌≡◌ {A = List ℕ} (opening two_terms 0 ∷ opening two_terms 1 ∷ []) (258 ∷ 3 ∷ [])
  pub two_closings : ◌≡◌ {A = List ℕ} (closing 2 two_terms 0 ∷ closing 2 two_terms 1 ∷ []) (36524 ∷ 2 ∷ [])
  pub two_made : term_sheet (258 ∷ 3 ∷ []) (36524 ∷ 2 ∷ []) ≡ two_terms
  pub two_fit : fit_terms 2 two_terms ≡ true
  -- on show or not: from the day before the opening to the last day; a term that is never; a term of one day, the day before and the day after
  pub two_shown : map (on_show 2 two_terms 0) (257 ∷ 258 ∷ 36524 ∷ []) ≡ false ∷ true ∷ true ∷ []
  pub two_never : map (on_show 2 two_terms 1) (2 ∷ 3 ∷ []) ≡ false ∷ false ∷ []
  pub fifth_shown : map (on_show 1 fifth_day 0) (4 ∷ 5 ∷ 6 ∷ []) ≡ false ∷ true ∷ false ∷ []

-- where the days of a slot stand, 2 bytes each, high byte first
pub record TermPlaces : Type 0 where
  pub opens_at : (t : List ℕ) (i : ℕ) → 4 + 2 * i ≤ length t → opening t i ≡ get_or t (2 + 2 * i) 0 * 256 + get_or t (3 + 2 * i) 0
  pub closes_at : (n : ℕ) (t : List ℕ) (i : ℕ) → 4 + 2 * n + 2 * i ≤ length t → closing n t i ≡ get_or t (2 + 2 * n + 2 * i) 0 * 256 + get_or t (3 + 2 * n + 2 * i) 0
