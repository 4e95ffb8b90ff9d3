-- Calls in a row: each gets what the one before left.
use Rattle.std.specs.Prelude.{ℕ, ◌≡◌, List, [], ◌∷◌}

-- a call's number and length
pub record Reply : Type 0 where
  pub number : ℕ
  pub len : ℕ

-- calls of any kind C, on any kind of state S; a step gives the reply and the state after the call
module _ {C S : Type 0} (step : C → S → Reply × S) where
  unfoldable pub replies : List C → S → List Reply
  replies [] s = []
  replies (c ∷ cs) s = (step c s).0 ∷ replies cs (step c s).1

  unfoldable pub finally : List C → S → S
  finally [] s = s
  finally (c ∷ cs) s = finally cs (step c s).1

-- how the state is handed on: the first call gets s, and every other what the call before left
pub record HandedOn {C S : Type 0} (step : C → S → Reply × S) : Type 0 where
  pub no_reply : (s : S) → replies step [] s ≡ []
  pub no_call : (s : S) → finally step [] s ≡ s
  pub reply : (c : C) (cs : List C) (s : S) → replies step (c ∷ cs) s ≡ (step c s).0 ∷ replies step cs (step c s).1
  pub call : (c : C) (cs : List C) (s : S) → finally step (c ∷ cs) s ≡ finally step cs (step c s).1
