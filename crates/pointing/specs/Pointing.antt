-- What the answers of the calls on a sheet point at (document 02, request 5), said of the sheet's own bytes and not of a search.
use Rattle.std.specs.Prelude.{ℕ, ◌≤◌, ◌<◌, ◌≡◌, true, false, List, ◌↔◌, get_or}
use Rattle.octets.specs.Bytes.{Bytes}
use Rattle.layout.specs.Layout.{edition_of, key_class, mark_number, mark_length, mark_check, mark, field}
use Rattle.layout.specs.Rules.{MeetsLayout}
use Rattle.faults.specs.Faults.{Point, point}
use Rattle.faults.specs.First.{Breaks, order, FirstFault}
use Rattle.faults.specs.declared.Fault.{Fault}
use Rattle.captions.specs.Answers.{Outcome}
use Rattle.captions.specs.Captions.{Keys, Ciphers, check_of, opened}
use Rattle.captions.specs.Calls.{writing, clearing, reading, blanking}
use Rattle.dated.specs.Calls.{dating}
use Rattle.exhibits.specs.Exhibits.{Exhibits}
use Rattle.demands.specs.Ciphers.{by_paths, ClassesByCipher}

-- ---- an unfit sheet

-- p points at a rule that the sheet s breaks, and none that comes before it is broken
pub record AtFault (s : List ℕ) (p : Point) : Type 0 where
  pub fault : Fault
  pub broken : Breaks s fault p
  pub first : (f : Fault) (q : Point) → Breaks s f q → order fault ≤ order f

-- ---- an altered slot

-- the first byte of v at or past n that isn't zero, below 192
pub record FirstLeft (v : List ℕ) (n j : ℕ) : Type 0 where
  pub past : n ≤ j
  pub below : j < 192
  pub set : get_or v j 0 ≡ 0 → ⊥
  pub between : (m : ℕ) → n ≤ m → m < j → get_or v m 0 ≡ 0

module _ (x : Ciphers) (s : List ℕ) (i : ℕ) where
  -- the check that slot i of s stores is that of its numbers and its field
  abbrev pub CheckAgrees : Type 0
  CheckAgrees = check_of x (mark_number (mark (edition_of s) s i)) i (mark_length (mark (edition_of s) s i)) (field (edition_of s) s i) ≡ mark_check (mark (edition_of s) s i)

  pub record AtChange (p : Point) : Type 0 where
    pub slot : p.slot ≡ i
    -- rule 10 exactly if the check differs, and else rule 11
    pub check : (p.rule ≡ 10) ↔ (CheckAgrees → ⊥)
    pub byte : (p.rule ≡ 11) ↔ CheckAgrees
    pub at_check : p.rule ≡ 10 → p.place ≡ 0
    pub at_byte : p.rule ≡ 11 → FirstLeft (opened x (edition_of s) s i) (mark_length (mark (edition_of s) s i)) p.place

-- ---- an answer

-- 4 points at the first fault of s, 10 as is said of it, and every other answer at nothing
pub record Points (s : List ℕ) (Altered : Point → Type 0) (o : Outcome) : Type 0 where
  pub unfit : o.number ≡ 4 → AtFault s o.points
  pub altered : o.number ≡ 10 → Altered o.points
  pub nothing : (o.number ≡ 4 → ⊥) → (o.number ≡ 10 → ⊥) → o.points ≡ point 0 0 0

-- of a call that never answers 10
abbrev pub Never : Point → Type 0
Never p = ⊥

-- where 4 is the term sheet's, the caption sheet has no fault
pub record PointsAtTerms (s : List ℕ) (p : Point) : Type 0 where
  pub fit : MeetsLayout s
  pub terms : p ≡ point 12 0 0

-- ---- the statement

pub record Pointing : Type 0 where
  -- a sheet is fit exactly if it has no first fault
  pub faults : FirstFault
  pub write : (k : Keys) (s : List ℕ) (i : ℕ) (c : List ℕ) → Points s Never (writing k s i c)
  -- a clear shares the case of an unfit sheet; blanking points at nothing
  pub clear : (s : List ℕ) (i : ℕ) → Points s Never (clearing s i)
  pub blank : (k : Keys) (s : List ℕ) (n t v : ℕ) → (blanking k s n t v).points ≡ point 0 0 0
  -- the check and what is opened are those of the class's cipher, by any path numbers
  pub ciphers : ClassesByCipher
  pub read : (p q : ℕ) (k : Keys) (s : List ℕ) (i : ℕ) (window : List ℕ) → Bytes k.sealing → Bytes k.checking → Bytes s
      → Points s (AtChange (by_paths (key_class s) p q k) s i) (reading k s i window)
  -- a dated read, refused for its terms or not
  pub dated_terms : (k : Keys) (s t : List ℕ) (i day : ℕ) (window : List ℕ) → (dating k s t i day window).unfit_terms ≡ true
      → PointsAtTerms s (dating k s t i day window).outcome.points
  pub dated : (p q : ℕ) (k : Keys) (s t : List ℕ) (i day : ℕ) (window : List ℕ) → Bytes k.sealing → Bytes k.checking → Bytes s
      → (dating k s t i day window).unfit_terms ≡ false → Points s (AtChange (by_paths (key_class s) p q k) s i) (dating k s t i day window).outcome
  -- rules 1, 10, 11 and 12 are met in whole calls
  pub exhibits : Exhibits
  -- of what is read nothing is asked but that it is bytes
  pub ask : (s : List ℕ) → ((i : ℕ) → get_or s i 0 < 256) → Bytes s
