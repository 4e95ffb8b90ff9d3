-- The vectors hold, by computing.
use mathlib.Core.Path.{refl}
use Rattle.rounds.specs.Word.{rotate1, rotate}
use Rattle.rounds.specs.Array.{sboxes, sbox, γ, π, τ}
use Rattle.schedule.specs.Schedule.{by_count, forward_words, forward4, forward6, forward8, forward, backward_words, backward4, backward6, backward8, backward, start, eight_words, start_words, start4, start6, start8, back_start, times, register, back_register, constants, register_t, last_word, round_key, encryption_key, decryption_key}
use Rattle.mcrypton.specs.Cipher.{by_words, after_by, steps, encrypt_block, decrypt_block}
use Rattle.mcrypton.specs.Bytes.{words_of, bytes_of, encrypt_bytes, decrypt_bytes}
use Rattle.mcrypton.specs.Vectors.{BlockVectors}

pub block_vectors : BlockVectors
unfolding rotate1 rotate sboxes sbox γ π τ by_count forward_words forward4 forward6 forward8 forward backward_words backward4 backward6 backward8 backward start eight_words start_words start4 start6 start8 back_start times register back_register constants register_t last_word round_key encryption_key decryption_key by_words after_by steps encrypt_block decrypt_block words_of bytes_of encrypt_bytes decrypt_bytes
block_vectors =
    record {
      encrypt_4 = refl;
      decrypt_4 = refl;
      encrypt_6 = refl;
      decrypt_6 = refl;
      encrypt_8 = refl;
      decrypt_8 = refl;
    }
