-- The vectors hold, by computing.
use mathlib.Core.Path.{refl}
use Rattle.rounds.specs.Array.{sboxes, sbox, γ, π, τ}
use Rattle.rounds.specs.Vectors.{rounds_with, RoundVectors}

pub round_vectors : RoundVectors
unfolding sboxes sbox γ π τ rounds_with
round_vectors = record { twelve = refl }
