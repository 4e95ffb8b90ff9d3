-- What the call on a panel answers and leaves in the output.
use Rattle.std.specs.Prelude.{ℕ, not, List, [], ◌∷◌, length, ◌==◌, nat_lt, Result, Ok, Err}
use Rattle.octets.specs.Outcome.{Outcome, Row, ◌gives◌, decided}
use Rattle.mcrypton.specs.Bytes.{key_length, encrypt_bytes}
use Rattle.panels.specs.Ctr.{ctr}
use Rattle.panels.specs.declared.PanelError.{PanelError}
use Rattle.panels.specs.declared.PanelError.TheVariants.{WrongKey, WrongSpan, Overlong}

-- the number of each refusal in document 01
abbrev pub error_number : PanelError → ℕ
error_number WrongKey = 1
error_number WrongSpan = 3
error_number Overlong = 7

-- and of each answer: 0 is accepted. The length is always 0
abbrev pub panel_number : Result Unit PanelError → ℕ
panel_number (Ok done) = 0
panel_number (Err e) = error_number e

unfoldable pub panel_outcome : Result Unit PanelError → List ℕ → Outcome
panel_outcome a bytes = record { number = panel_number a; len = 0; bytes = bytes }

-- the tests, in their order: key k, panel x, output
unfoldable pub panel_tests : List ℕ → List ℕ → List ℕ → List (Row PanelError)
panel_tests k x out =
    (not (key_length (length k)) gives WrongKey)
    ∷ (not (length out == length x) gives WrongSpan)
    ∷ (nat_lt 65536 (length x) gives Overlong)
    ∷ []

-- a refusal leaves the output as it was. All paths agree; 0 is one of them
unfoldable pub panelling : List ℕ → ℕ → List ℕ → List ℕ → Outcome
panelling k first x out = decided (panel_tests k x out) (panel_outcome (Ok tt) (ctr (encrypt_bytes 0 k) first x)) (λ e. panel_outcome (Err e) out)
