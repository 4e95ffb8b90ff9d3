-- Each field of a struct that crosses is the outcome's field of the same name.
use Rattle.std.specs.Prelude.{ℕ, ◌≡◌, List}
use Rattle.captions.specs.Answers as Sheets
use Rattle.captions_c.specs.Answer.{crossed, plain, day_crossed, date_crossed}
use Rattle.captions_c.specs.declared.Answer.{Answer}
use Rattle.captions_c.specs.declared.Day.{Day}
use Rattle.captions_c.specs.declared.Date.{Date}

pub record Named : Type 0 where
  pub answer_number_lem : (a : Answer) (bytes : List ℕ) → (crossed a bytes).number ≡ a.number
  pub answer_length_lem : (a : Answer) (bytes : List ℕ) → (crossed a bytes).len ≡ a.length
  pub answer_bytes : (a : Answer) (bytes : List ℕ) → (crossed a bytes).bytes ≡ bytes
  -- of blanking and clear, all but what is pointed at
  pub plain_number : (o : Sheets.Outcome) → (plain o).number ≡ o.number
  pub plain_length : (o : Sheets.Outcome) → (plain o).len ≡ o.len
  pub plain_bytes : (o : Sheets.Outcome) → (plain o).bytes ≡ o.bytes
  pub day_number_lem : (d : Day) → (day_crossed d).number ≡ d.number
  pub day_day : (d : Day) → (day_crossed d).day ≡ d.day
  pub date_number : (d : Date) → (date_crossed d).number ≡ d.number
  pub date_year : (d : Date) → (date_crossed d).year ≡ d.year
  pub date_month : (d : Date) → (date_crossed d).month ≡ d.month
  pub date_day : (d : Date) → (date_crossed d).day ≡ d.day
