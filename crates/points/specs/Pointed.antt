-- The answers of read, write and dated read as the numbers that cross to C.
use Rattle.std.specs.Prelude.{ℕ, ◌≡◌, List}
use Rattle.faults.specs.Faults.{Point, point}
use Rattle.captions.specs.Answers.{Answer, Outcome, answer_number, answer_length, answer_point}
use Rattle.dated.specs.Calls.{DatedAnswer, dated_number, dated_length, dated_point}
use Rattle.points.specs.declared.Pointed.{Pointed}

-- a number, a length and a point
abbrev pub made : ℕ → ℕ → Point → Pointed
made n l p = record { number = n; rule = p.rule; length = l; slot = p.slot; place = p.place }

-- a refusal: its length is 0
abbrev pub pointed_at : ℕ → Point → Pointed
pointed_at n p = made n 0 p

unfoldable pub answer_pointed : Answer → Pointed
answer_pointed a = made (answer_number a) (answer_length a) (answer_point a)

unfoldable pub dated_pointed : DatedAnswer → Pointed
dated_pointed a = made (dated_number a) (dated_length a) (dated_point a)

-- the numbers and the lent bytes as an outcome: each field is what its name says (`Named`)
abbrev pub pointed_outcome : Pointed → List ℕ → Outcome
pointed_outcome p bytes = record { number = p.number; len = p.length; points = point p.rule p.slot p.place; bytes = bytes }

pub record Named : Type 0 where
  pub number : (p : Pointed) (bytes : List ℕ) → (pointed_outcome p bytes).number ≡ p.number
  pub length : (p : Pointed) (bytes : List ℕ) → (pointed_outcome p bytes).len ≡ p.length
  pub rule : (p : Pointed) (bytes : List ℕ) → (pointed_outcome p bytes).points.rule ≡ p.rule
  pub slot : (p : Pointed) (bytes : List ℕ) → (pointed_outcome p bytes).points.slot ≡ p.slot
  pub place : (p : Pointed) (bytes : List ℕ) → (pointed_outcome p bytes).points.place ≡ p.place
