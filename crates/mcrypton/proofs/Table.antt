-- Cases A to M hold, by computing.
use mathlib.Core.Path.{refl}
use mathlib.Core.Path.{◌≡◌}
use mathlib.Core.List.{List, [], ◌∷◌}
use lib.ListN.{replicate}
use Prim.Native.Nat.{ℕ}
use Rattle.rounds.specs.Word.{rotate1, rotate}
use Rattle.rounds.specs.Array.{sboxes, sbox, γ, π, τ, tables, entry, word_row}
use Rattle.schedule.specs.Schedule.{Count, four, six, eight, by_count, forward_words, forward4, forward6, forward8, forward, start, eight_words, start_words, start4, start6, start8, back_start, times, register, back_register, constants, register_t, last_word, round_key, encryption_key, decryption_key}
use Rattle.mcrypton.specs.Cases.{Cases}

abbrev zero_words : ℕ → List ℕ
zero_words t = replicate t 0

f_by_count : {t : ℕ} → Count t → encryption_key (zero_words t) 0 ≡ 0x5000 ∷ 0x0500 ∷ 0x0050 ∷ 0x0005 ∷ []
unfolding by_count eight_words start_words start4 start6 start8 start forward_words forward4 forward6 forward8 forward back_start times register back_register constants register_t last_word round_key encryption_key decryption_key sboxes sbox rotate1 rotate
f_by_count four = refl
f_by_count six = refl
f_by_count eight = refl

g_by_count : {t : ℕ} → Count t → encryption_key (zero_words t) 12 ≡ 0xb000 ∷ 0x0b00 ∷ 0x00b0 ∷ 0x000b ∷ []
unfolding by_count eight_words start_words start4 start6 start8 start forward_words forward4 forward6 forward8 forward back_start times register back_register constants register_t last_word round_key encryption_key decryption_key sboxes sbox rotate1 rotate
g_by_count four = refl
g_by_count six = refl
g_by_count eight = refl

h_by_count : {t : ℕ} → Count t → decryption_key (zero_words t) 0 ≡ 0xa9b3 ∷ 0xb3a9 ∷ 0xa9b3 ∷ 0xb3a9 ∷ []
unfolding by_count eight_words start_words start4 start6 start8 start forward_words forward4 forward6 forward8 forward back_start times register back_register constants register_t last_word round_key encryption_key decryption_key sboxes sbox rotate1 rotate τ π
h_by_count four = refl
h_by_count six = refl
h_by_count eight = refl

pub cases : Cases
unfolding rotate1 rotate sboxes sbox γ π τ tables entry word_row by_count forward_words forward4 forward6 forward8 forward start eight_words start_words start4 start6 start8 back_start times register back_register constants register_t last_word round_key encryption_key decryption_key
cases =
    record {
      a = refl;
      b = refl;
      c = refl;
      d = refl;
      e = refl;
      f = f_by_count;
      g = g_by_count;
      h = h_by_count;
      i = refl;
      i' = refl;
      j = refl;
      j' = refl;
      k = refl;
      k' = refl;
      l = refl;
      l' = refl;
      m = refl;
      m' = refl;
    }
