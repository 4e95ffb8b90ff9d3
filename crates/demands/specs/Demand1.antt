-- Demand 1: exactly which calls are refused, by which number; a refusal changes nothing, but that a refused read makes its window zero; every other call is accepted.
-- Every public call that can be refused is listed with its clauses, in the order of its tests: a number, and what it is met by. The listing, and the place at which a text breaks, refuse nothing.
use Rattle.std.specs.Prelude.{ℕ, ◌+◌, ◌*◌, ◌≤◌, ◌<◌, ◌≡◌, List, [], ◌∷◌, ◌↔◌, length}
use Rattle.octets.specs.Bytes.{zeros}
use Rattle.octets.specs.Clauses.{Clause, ◌when◌, Answers, OneOf}
use Rattle.text.specs.Grammar.{Utf8}
use Rattle.text.specs.Laws.{TextLaws}
use Rattle.mcrypton.specs.Calls.{encrypting, decrypting}
use Rattle.octets.specs.BlockCalls as Blocks
use Rattle.mcrypton.specs.Refusals.{BlockCalls}
use Rattle.present.specs.Calls as Present
use Rattle.present.specs.Refusals.{BlockCalls as PresentCalls}
use Rattle.modes.specs.Answers.{authenticating}
use Rattle.modes.specs.Refusals.{MacCalls}
use Rattle.chip_bench.specs.Calls.{benching}
use Rattle.chip_bench.specs.Laws.{BenchCalls}
use Rattle.panels.specs.Calls.{panelling}
use Rattle.panels.specs.Laws.{PanelCalls}
use Rattle.calendar.specs.Calendar.{day_of_date, date_of_day}
use Rattle.calendar.specs.Laws.{IsDate}
use Rattle.layout.specs.Layout.{edition_of, slots, key_class, last_write}
use Rattle.layout.specs.Rules.{KeyFits, IsBlank, MeetsLayout}
use Rattle.layout.specs.Places.{Places}
use Rattle.captions.specs.Captions.{Keys, loaded_for}
use Rattle.captions.specs.Calls.{writing, clearing, reading, blanking}
use Rattle.captions.specs.Refusals.{OtherMark, IsAltered, Leaves, SheetRefusals}
use Rattle.terms.specs.Rules.{MeetsTerms, OnShow}
use Rattle.dated.specs.Calls.{dating}
use Rattle.exhibits.specs.Exhibits.{Exhibits}

-- ---- what is said of a call

-- no clause applies
unfoldable pub NoneApplies : List Clause → Type 0
NoneApplies [] = Unit {0}
NoneApplies ((n when P) ∷ clauses) = (P → ⊥) × NoneApplies clauses

pub record Decides (number : ℕ) (clauses : List Clause) (Left : Type 0) : Type 0 where
  -- the number of the first clause that applies is given, and only then
  pub first_that_applies : (n : ℕ) → (number ≡ n) ↔ Answers clauses n
  -- the call is accepted, which is 0, exactly if none applies
  pub accepted_exactly_if_none_applies : (number ≡ 0) ↔ NoneApplies clauses
  -- what a refusal leaves
  pub refused : (number ≡ 0 → ⊥) → Left

-- ---- clauses that calls share

-- 1: a key isn't 8, 12 or 16 bytes
abbrev pub wrong_key : List ℕ → Clause
wrong_key k = 1 when (OneOf (8 ∷ 12 ∷ 16 ∷ []) (length k) → ⊥)

-- 1: a key of a sheet isn't 8, 10, 12 or 16 bytes, or the two lengths differ
abbrev pub wrong_keys : Keys → Clause
wrong_keys k = 1 when (OneOf (8 ∷ 10 ∷ 12 ∷ 16 ∷ []) (length k.sealing) × (length k.checking ≡ length k.sealing) → ⊥)

-- 2: sealing and checking key are equal
abbrev pub twin_keys : Keys → Clause
twin_keys k = 2 when (k.sealing ≡ k.checking)

-- 3: a window isn't 192 bytes
abbrev pub wrong_window : List ℕ → Clause
wrong_window window = 3 when (length window ≡ 192 → ⊥)

-- 4: a rule of the layout is broken
abbrev pub unfit_sheet : List ℕ → Clause
unfit_sheet s = 4 when (MeetsLayout s → ⊥)

-- 5: key bytes don't fit byte 2
abbrev pub other_class : Keys → List ℕ → Clause
other_class k s = 5 when (KeyFits (length k.sealing) (key_class s) → ⊥)

-- 14: the sheet is of edition 3, and its key mark isn't that of the keys
abbrev pub other_keys : Keys → List ℕ → Clause
other_keys k s = 14 when OtherMark (loaded_for (key_class s) k) s

-- 6: the slot is n or more
abbrev pub no_slot : List ℕ → ℕ → Clause
no_slot s i = 6 when (slots s ≤ i)

-- 9: the 208 bytes of the slot are zero
abbrev pub blank : List ℕ → ℕ → Clause
blank s i = 9 when IsBlank (edition_of s) s i

-- 10: the check differs, or an opened byte at or past the length isn't zero
abbrev pub altered : Keys → List ℕ → ℕ → Clause
altered k s i = 10 when IsAltered (loaded_for (key_class s) k) (edition_of s) s i

-- ---- the calls

pub record Demand1 : Type 0 where
  -- a block encrypted and decrypted under the key k: 1 3
  pub encrypt_block_lem : (p : ℕ) (k b out : List ℕ)
      → Decides (encrypting p k b out).number (wrong_key k ∷ (3 when ((length b ≡ 8) × (length out ≡ 8) → ⊥)) ∷ []) (Blocks.Leaves (encrypting p k b out) out)
  pub decrypt_block_lem : (p : ℕ) (k b out : List ℕ)
      → Decides (decrypting p k b out).number (wrong_key k ∷ (3 when ((length b ≡ 8) × (length out ≡ 8) → ⊥)) ∷ []) (Blocks.Leaves (decrypting p k b out) out)
  -- the same with PRESENT, where a key is 10 or 16 bytes: 1 3
  pub present_encrypt_block : (k b out : List ℕ)
      → Decides (Present.encrypting k b out).number ((1 when (OneOf (10 ∷ 16 ∷ []) (length k) → ⊥)) ∷ (3 when ((length b ≡ 8) × (length out ≡ 8) → ⊥)) ∷ [])
      (Blocks.Leaves (Present.encrypting k b out) out)
  pub present_decrypt_block : (k b out : List ℕ)
      → Decides (Present.decrypting k b out).number ((1 when (OneOf (10 ∷ 16 ∷ []) (length k) → ⊥)) ∷ (3 when ((length b ≡ 8) × (length out ≡ 8) → ⊥)) ∷ [])
      (Blocks.Leaves (Present.decrypting k b out) out)
  -- CMAC: 1 3
  pub cmac : (k m out : List ℕ)
      → Decides (authenticating k m out).number (wrong_key k ∷ (3 when (length out ≡ 8 → ⊥)) ∷ []) (Blocks.Leaves (authenticating k m out) out)
  -- the bench: 1 3 13
  pub bench_block : (k : List ℕ) (r : ℕ) (wanted out : List ℕ)
      → Decides (benching k r wanted out).number (wrong_key k ∷ (3 when ((length wanted ≡ 8) × (length out ≡ 8) → ⊥)) ∷ (13 when (12 < r)) ∷ [])
      (Blocks.Leaves (benching k r wanted out) out)
  -- a panel x from the number first: 1 3 7
  pub panel : (k : List ℕ) (first : ℕ) (x out : List ℕ)
      → Decides (panelling k first x out).number (wrong_key k ∷ (3 when (length out ≡ length x → ⊥)) ∷ (7 when (65536 < length x)) ∷ [])
      (Blocks.Leaves (panelling k first x out) out)
  -- blanking with n slots, t and the serial v: 1 (keys or t) 2 3 5
  pub blank_sheet_lem : (k : Keys) (s : List ℕ) (n t v : ℕ)
      → Decides (blanking k s n t v).number
      ((1 when ((OneOf (8 ∷ 10 ∷ 12 ∷ 16 ∷ []) (length k.sealing) × (length k.checking ≡ length k.sealing)) × OneOf (4 ∷ 6 ∷ 8 ∷ 21 ∷ 24 ∷ []) t → ⊥))
      ∷ twin_keys k
      ∷ (3 when ((1 ≤ n) × (n ≤ 256) × (length s ≡ 16 + 208 * n) → ⊥))
      ∷ (5 when (KeyFits (length k.sealing) t → ⊥))
      ∷ [])
      (Leaves (blanking k s n t v) s)
  -- writing the caption c to slot i: 1 2 4 5 14 6 7 15 8
  pub write : (k : Keys) (s : List ℕ) (i : ℕ) (c : List ℕ)
      → Decides (writing k s i c).number
      (wrong_keys k ∷ twin_keys k ∷ unfit_sheet s ∷ other_class k s ∷ other_keys k s ∷ no_slot s i ∷ (7 when (192 < length c)) ∷ (15 when (Utf8 c → ⊥)) ∷ (8 when (last_write s ≡ 4294967295)) ∷ [])
      (Leaves (writing k s i c) s)
  -- clearing slot i: 4 6
  pub clear : (s : List ℕ) (i : ℕ) → Decides (clearing s i).number (unfit_sheet s ∷ no_slot s i ∷ []) (Leaves (clearing s i) s)
  -- reading slot i: 1 2 3 4 5 14 6 9 10; refused, it makes the window zero, whatever its length
  pub read : (k : Keys) (s : List ℕ) (i : ℕ) (window : List ℕ)
      → Decides (reading k s i window).number
      (wrong_keys k ∷ twin_keys k ∷ wrong_window window ∷ unfit_sheet s ∷ other_class k s ∷ other_keys k s ∷ no_slot s i ∷ blank s i ∷ altered k s i ∷ [])
      (Leaves (reading k s i window) (zeros (length window)))
  -- reading it on a day, with the term sheet t: 1 2 3 4 4 (terms) 5 11 14 6 9 12 10
  pub dated_read : (k : Keys) (s t : List ℕ) (i day : ℕ) (window : List ℕ)
      → Decides (dating k s t i day window).outcome.number
      (wrong_keys k ∷ twin_keys k ∷ wrong_window window ∷ unfit_sheet s ∷ (4 when (MeetsTerms (slots s) t → ⊥)) ∷ other_class k s ∷ (11 when (36524 < day))
      ∷ other_keys k s ∷ no_slot s i ∷ blank s i ∷ (12 when (OnShow (slots s) t i day → ⊥)) ∷ altered k s i ∷ [])
      (Leaves (dating k s t i day window).outcome (zeros (length window)))
  -- the conversions: 11, and zeros
  pub day_of_date_lem : (y m d : ℕ) → Decides (day_of_date y m d).number ((11 when (IsDate y m d → ⊥)) ∷ []) ((day_of_date y m d).day ≡ 0)
  pub date_of_day_lem : (n : ℕ)
      → Decides (date_of_day n).number ((11 when (36524 < n)) ∷ []) (((date_of_day n).year ≡ 0) × ((date_of_day n).month ≡ 0) × ((date_of_day n).day ≡ 0))
  -- where the numbers that the clauses look at stand in a sheet
  pub places : Places
  -- key bytes that fit byte 2: 8, 12 and 16 fit 4, 6 and 8; 10 and 16 fit 21 and 24
  pub key_sizes : (n : ℕ) → (KeyFits n 4 ↔ (n ≡ 8)) × (KeyFits n 6 ↔ (n ≡ 12)) × (KeyFits n 8 ↔ (n ≡ 16)) × (KeyFits n 21 ↔ (n ≡ 10)) × (KeyFits n 24 ↔ (n ≡ 16))
  -- what well-formed text is: the encoding of code points, and of no others
  pub texts : TextLaws
  -- calls of each kind, accepted and refused, in plain values
  pub block_calls : BlockCalls
  pub present_block_calls : PresentCalls
  pub mac_calls : MacCalls
  pub bench_calls : BenchCalls
  pub panel_calls : PanelCalls
  pub sheet_calls : Exhibits
  -- and each number that a write, a clear and a blanking can answer is met, and each of a read but 0 and 10, which the calls above have
  pub sheets : SheetRefusals
