-- Each turn of a list is a call.
use Prim.Native.Nat.{ℕ}
use mathlib.Core.Path.{◌≡◌, refl, ap}
use mathlib.Core.List.{List}
use Rattle.captions.specs.Captions.{Keys}
use Rattle.captions.specs.Calls.{writing, clearing}
use Rattle.captions.specs.Answers.{Outcome}
use Rattle.captions.specs.Model.{writes, clears}
use Rattle.captions.specs.Turns.{own, stranger}
use Rattle.captions.specs.Claim.{stepped}
use Rattle.demands.specs.Steps.{sheet_step, turn_step}
use Rattle.demands.proofs.Ciphers.{code_writes}

pub turn_write : (p : ℕ) (k : Keys) (i : ℕ) (c s : List ℕ) → turn_step p k (own (writes i c)) s ≡ stepped (writing k s i c)
unfolding turn_step sheet_step
turn_write p k i c s = ap (λ (o : Outcome). stepped o) (code_writes p k s i c)

pub turn_clear : (p : ℕ) (k : Keys) (i : ℕ) (s : List ℕ) → turn_step p k (own (clears i)) s ≡ stepped (clearing s i)
unfolding turn_step sheet_step
turn_clear p k i s = refl

pub turn_stranger : (p : ℕ) (k k' : Keys) (i : ℕ) (c s : List ℕ) → turn_step p k (stranger k' i c) s ≡ stepped (writing k' s i c)
unfolding turn_step
turn_stranger p k k' i c s = ap (λ (o : Outcome). stepped o) (code_writes p k' s i c)
