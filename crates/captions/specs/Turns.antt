-- A list of calls in which strangers' writes are mixed (document 02, request 7).
use Rattle.std.specs.Prelude.{ℕ, List, [], ◌∷◌}
use Rattle.captions.specs.Captions.{Keys}
use Rattle.captions.specs.Runs.{Reply}
use Rattle.captions.specs.Model.{Call, Model, answered, model_step}

-- a write of the sheet's pair or anybody's clear, or a write of a caption to a slot under a stranger's keys
pub data Turn : Type 0 where
  own : Call → Turn
  stranger : Keys → ℕ → List ℕ → Turn

-- the calls that are in the model
unfoldable pub own_calls : List Turn → List Call
own_calls [] = []
own_calls (own c ∷ turns) = c ∷ own_calls turns
own_calls (stranger k i c ∷ turns) = own_calls turns

-- P holds of the keys of each stranger
pub data EachStranger (P : Keys → Type 0) : List Turn → Type 0 where
  none : EachStranger P []
  past : {c : Call} {turns : List Turn} → EachStranger P turns → EachStranger P (own c ∷ turns)
  met : {k : Keys} {i : ℕ} {c : List ℕ} {turns : List Turn} → P k → EachStranger P turns → EachStranger P (stranger k i c ∷ turns)

-- what is answered, and the model after the turn: a stranger gets a number of his own and is left out of the model
unfoldable pub turn_model : (Keys → ℕ) → Turn → Model → Reply × Model
turn_model number (own c) m = model_step c m
turn_model number (stranger k i c) m = (answered (number k), m)
