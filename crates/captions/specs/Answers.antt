-- The answers of the calls on a sheet: their numbers, words and lengths (document 01, "What the kiosk shows instead of a caption", and document 02, requests 7 and 9), and what they point at (request 5).
use Rattle.std.specs.Prelude.{ℕ, List, Result, Ok, Err}
use Rattle.octets.specs.Outcome.{Row, decided}
use Rattle.faults.specs.Faults.{Point, point, fault_point}
use Rattle.captions.specs.declared.Change.{Change}
use Rattle.captions.specs.declared.Change.TheVariants.{Check, Byte}
use Rattle.captions.specs.declared.Refusal.{Refusal}
use Rattle.captions.specs.declared.Refusal.TheVariants.{WrongKey, TwinKeys, WrongSpan, UnfitSheet, OtherKeyClass, NoSuchSlot, Overlong, Worn, Blank, Altered, OtherKeys, BrokenText}

-- what a call on a sheet answers: the paper's length, which is 0 except for a read, or why it is refused
abbrev pub Answer : Type 0
Answer = Result ℕ Refusal

-- what a call on a sheet answers and leaves behind: the paper's number (0 is accepted), the paper's length, what a refusal points at, the lent bytes after the call
pub record Outcome : Type 0 where
  pub number : ℕ
  pub len : ℕ
  pub points : Point
  pub bytes : List ℕ

-- the paper's number of each refusal
abbrev pub refusal_number : Refusal → ℕ
refusal_number WrongKey = 1
refusal_number TwinKeys = 2
refusal_number WrongSpan = 3
refusal_number (UnfitSheet f) = 4
refusal_number OtherKeyClass = 5
refusal_number NoSuchSlot = 6
refusal_number Overlong = 7
refusal_number Worn = 8
refusal_number Blank = 9
refusal_number (Altered i c) = 10
refusal_number OtherKeys = 14
refusal_number BrokenText = 15

-- and of each answer: 0 is accepted
unfoldable pub answer_number : Answer → ℕ
answer_number (Ok n) = 0
answer_number (Err r) = refusal_number r

-- the paper's length of each answer: 0 except for an accepted read
unfoldable pub answer_length : Answer → ℕ
answer_length (Ok n) = n
answer_length (Err r) = 0

-- what differs in slot i
unfoldable pub change_point : ℕ → Change → Point
change_point i Check = point 10 i 0
change_point i (Byte j) = point 11 i j

-- what a refusal points at: rule, slot and place, which are 0 but for 4 and 10
abbrev pub refusal_point : Refusal → Point
refusal_point WrongKey = point 0 0 0
refusal_point TwinKeys = point 0 0 0
refusal_point WrongSpan = point 0 0 0
refusal_point (UnfitSheet f) = fault_point f
refusal_point OtherKeyClass = point 0 0 0
refusal_point NoSuchSlot = point 0 0 0
refusal_point Overlong = point 0 0 0
refusal_point Worn = point 0 0 0
refusal_point Blank = point 0 0 0
refusal_point (Altered i c) = change_point i c
refusal_point OtherKeys = point 0 0 0
refusal_point BrokenText = point 0 0 0

-- and an answer
unfoldable pub answer_point : Answer → Point
answer_point (Ok n) = point 0 0 0
answer_point (Err r) = refusal_point r

-- an answer and the lent bytes after the call
unfoldable pub outcome : Answer → List ℕ → Outcome
outcome a bytes = record { number = answer_number a; len = answer_length a; points = answer_point a; bytes = bytes }

-- what a table of tests comes to by itself
unfoldable pub first_of : List (Row Refusal) → Result (Unit {0}) Refusal
first_of rows = decided rows (Ok tt) Err
