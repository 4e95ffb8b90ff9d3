-- The plain model of a sheet (document 01: the book), fed the count of slots and the calls, nothing else.
use Rattle.std.specs.Prelude.{ℕ, ◌+◌, List, not, leb, ltb, eqb, length, get_or, set, replicate}
use Rattle.octets.specs.Bytes.{if◌then◌otherwise◌}
use Rattle.text.specs.Grammar.{well_formed}
use Rattle.captions.specs.Runs.{Reply}

-- a write of a caption to a slot, or a clear of a slot
pub data Call : Type 0 where
  writes : ℕ → List ℕ → Call
  clears : ℕ → Call

pub data Page : Type 0 where
  blank : Page
  holds : List ℕ → Page

pub record Model : Type 0 where
  pub pages : List Page
  pub count : ℕ

-- n pages, all blank, and the count 0
unfoldable pub new_model : ℕ → Model
new_model n = record { pages = replicate n blank; count = 0 }

unfoldable pub page : Model → ℕ → Page
page m i = get_or m.pages i blank

unfoldable pub answered : ℕ → Reply
answered number = record { number = number; len = 0 }

-- what the model answers, and the model after the call
unfoldable pub model_step : Call → Model → Reply × Model
model_step (writes i c) m =
    if leb (length m.pages) i then (answered 6, m) otherwise
    if ltb 192 (length c) then (answered 7, m) otherwise
    if not (well_formed c) then (answered 15, m) otherwise
    if eqb m.count 4294967295 then (answered 8, m) otherwise
    (answered 0, record { pages = set m.pages i (holds c); count = m.count + 1 })
model_step (clears i) m =
    if leb (length m.pages) i then (answered 6, m) otherwise
    (answered 0, record { pages = set m.pages i blank; count = m.count })
