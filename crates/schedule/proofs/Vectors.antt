-- The vectors hold, by computing.
use mathlib.Core.Path.{refl}
use Rattle.rounds.specs.Word.{rotate1, rotate}
use Rattle.rounds.specs.Array.{sboxes, sbox}
use Rattle.schedule.specs.Schedule.{by_count, forward_words, forward4, forward, start, eight_words, times, register, constants, register_t, last_word, round_key, encryption_key}
use Rattle.schedule.specs.Vectors.{KeyVectors}

pub key_vectors : KeyVectors
unfolding rotate1 rotate sboxes sbox by_count forward_words forward4 forward start eight_words times register constants register_t last_word round_key encryption_key
key_vectors = record { thirteen = refl }
