-- The statement on term sheets.
use Prim.Native.Nat.{ℕ, ◌≤◌}
use mathlib.Core.Path.{◌≡◌, refl}
use mathlib.Core.List.{List}
use mathlib.Core.Logic.{◌↔◌}
use lib.ListN.{length, get_or}
use Rattle.octets.specs.Bytes.{be, number, all_below}
use Rattle.octets.proofs.Clauses.{reflects_yes}
use Rattle.octets.proofs.EveryByte.{bytes_at, bytes_of}
use Rattle.terms.specs.Terms.{count, opening, closing, fit_terms, on_show}
use Rattle.terms.specs.Laws.{day_bytes, term_sheet, Days, TermSheets}
use Rattle.terms.proofs.Meaning.{reflects_terms, reflects_show, meets_plain, never}
use Rattle.terms.proofs.Plain.{show_plain, one_day, no_other_day}
use Rattle.terms.proofs.Store.{stored}
use Rattle.terms.proofs.Only.{only}

-- what is asked of days, written out
days : (openings closings : List ℕ) → Days openings closings
    ↔ ((length closings ≡ length openings) × (length openings ≤ 256) × ((i : ℕ) → (get_or openings i 0 ≤ 36524) × (get_or closings i 0 ≤ 36524)))
days openings closings = (
  λ d. (d.as_many, d.few, λ i. (d.opening_days i, d.closing_days i)),
  λ h. record { as_many = h.0; few = h.1; opening_days = λ i. (h.2 i).0; closing_days = λ i. (h.2 i).1 },
)

pub term_sheets : TermSheets
unfolding count opening closing fit_terms on_show all_below number day_bytes term_sheet be
term_sheets =
    record {
      fit = λ n t. ((reflects_terms n t).holds, reflects_yes (reflects_terms n t));
      shown = λ n t i day. ((reflects_show n t i day).holds, reflects_yes (reflects_show n t i day));
      meets = meets_plain;
      on_show_lem = show_plain;
      one_day = one_day;
      no_other_day = λ n t i day other e f. no_other_day n t i day e f other;
      never = never;
      stored = stored;
      only = only;
      bytes = λ t. (λ b i l. bytes_at t i b, bytes_of t);
      days = days;
      two_count = refl;
      two_openings = refl;
      two_closings = refl;
      two_made = refl;
      two_fit = refl;
      two_shown = refl;
      two_never = refl;
      fifth_shown = refl;
    }
