-- What crosses to C: the number of an outcome, and its length, its day or its date.
use Rattle.std.specs.Prelude.{List, ℕ}
use Rattle.octets.specs.Outcome as Blocks
use Rattle.captions.specs.Answers as Sheets
use Rattle.calendar.specs.Calendar.{DayOutcome, DateOutcome}
use Rattle.captions_c.specs.declared.Answer.{Answer}
use Rattle.captions_c.specs.declared.Day.{Day}
use Rattle.captions_c.specs.declared.Date.{Date}

-- an outcome from its number, its length and the lent bytes
abbrev pub block_made : ℕ → ℕ → List ℕ → Blocks.Outcome
block_made n l bytes = record { number = n; len = l; bytes = bytes }

-- of an outcome of a call on a sheet, what crosses of blanking and clear: number, length and the lent bytes
abbrev pub plain : Sheets.Outcome → Blocks.Outcome
plain o = block_made o.number o.len o.bytes

abbrev pub crossed : Answer → List ℕ → Blocks.Outcome
crossed a = block_made a.number a.length

abbrev pub day_crossed : Day → DayOutcome
day_crossed d = record { number = d.number; day = d.day }

abbrev pub date_crossed : Date → DateOutcome
date_crossed d = record { number = d.number; year = d.year; month = d.month; day = d.day }
