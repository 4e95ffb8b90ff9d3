-- An outcome in plain values.
use Prim.Native.Nat.{ℕ}
use mathlib.Core.Path.{◌≡◌, ap}
use mathlib.Core.List.{List}
use Rattle.captions.specs.Answers.{Answer, Outcome, answer_number, answer_length, outcome}
use Rattle.demands.specs.Steps.{Gives}

pub gives : {o : Outcome} (a : Answer) (bytes : List ℕ) → o ≡ outcome a bytes → Gives o (answer_number a) (answer_length a) bytes
unfolding outcome
gives a bytes e = record { number_is = ap (λ (x : Outcome). x.number) e; len_is = ap (λ (x : Outcome). x.len) e; bytes_are = ap (λ (x : Outcome). x.bytes) e }
