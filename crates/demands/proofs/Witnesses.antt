-- Demand 3 at work: the model and the strangers by computing, the run on a sheet from the exhibited calls.
use Prim.Native.Nat.{ℕ}
use mathlib.Core.Path.{◌≡◌, refl, sym, ap, ◌∙◌}
use mathlib.Core.Logic.{◌≢◌}
use mathlib.Core.List.{List, [], ◌∷◌}
use native.Mathlib.Omega.{arith}
use lib.Dec.{lit<}
use lib.ListN.{replicate}
use Rattle.std.specs.Prelude.{Ok}
use Rattle.octets.specs.Bytes.{none, more, be, number, zeros, same}
use Rattle.octets.specs.Outcome.{decided}
use Rattle.octets.proofs.Zeros.{zeros_bytes}
use Rattle.rounds.specs.Word.{rotate1, rotate}
use Rattle.rounds.specs.Array.{sboxes, sbox, γ, π, τ}
use Rattle.schedule.specs.Schedule.{by_count, forward_words, forward4, forward6, forward8, forward, start, eight_words, times, register, constants, register_t, last_word, round_key, encryption_key}
use Rattle.text.specs.Grammar.{forms, inside, after, some, meets, well_formed}
use Rattle.mcrypton.specs.Cipher.{by_words, after_by, steps, encrypt_block}
use Rattle.mcrypton.specs.Bytes.{words_of, bytes_of, encrypt_bytes}
use Rattle.modes.specs.Xor.{xor_bytes}
use Rattle.modes.specs.Cmac.{shift_left, double, block_count, last_block, message_block, chain, cmac}
use Rattle.cipher.specs.Key.{mcrypton_class, present_class, class_known, key_bytes, sheet_key_length, encrypt_by}
use Rattle.layout.specs.Layout.{edition_of, slots, key_class, edition_byte, serial, stored_mark, slot_count, sheet_size, first_eight, serial_header, blank_header, blank_slots, blank_sheet}
use Rattle.captions.specs.Answers.{Outcome, answer_number, answer_length, outcome}
use Rattle.captions.specs.Captions.{Keys, pair, mark_block, key_mark, mark_for, other_keys}
use Rattle.captions.specs.Calls.{wrong_keys, other_class, key_tests, class_tests, pair_tests, blank_tests, blanking_with, blanking}
use Rattle.captions.specs.Runs.{Reply, replies, finally}
use Rattle.captions.specs.Model.{writes, holds, new_model, page, answered, model_step}
use Rattle.captions.specs.Turns.{Turn, own, own_calls, EachStranger, none as no_stranger, past, met, turn_model}
use Rattle.captions.specs.Claim as Claim
use Rattle.captions.specs.Claim.{stepped}
use Rattle.exhibits.specs.Values.{keys, abc, nearly_worn, worn_one}
use Rattle.exhibits.proofs.Exhibits.{exhibits}
use Rattle.demands.specs.Ciphers.{by_paths, blanking_by}
use Rattle.demands.specs.Steps.{key_refusal, turn_step, Stranger}
use Rattle.demands.specs.Witnesses.{says, first_pair, seven_turns, strangers_sheet, ModelRun, WornRun, StrangersMet, Witnesses}
use Rattle.demands.proofs.Ciphers.{code_blanks}
use Rattle.demands.proofs.Gives.{gives}
use Rattle.demands.proofs.Turns.{turn_write}
use Rattle.demands.proofs.Premises.{ones_bytes, by_blanking}
use Rattle.demands.proofs.PresentMet.{present_met_80, present_met_128}

-- the pair exchanged
exchanged : Keys
exchanged = pair (replicate 8 1) (zeros 8)

own_mark : key_mark (by_paths 4 0 0 first_pair) 2 4 0x5a04 ≡ 0x91 ∷ 0xa0 ∷ 0x8f ∷ 0x35 ∷ 0x74 ∷ 0x63 ∷ []
unfolding rotate1 rotate sboxes sbox γ π τ by_count forward_words forward4 forward6 forward8 forward start eight_words times register constants register_t last_word round_key encryption_key by_words after_by steps encrypt_block words_of bytes_of encrypt_bytes present_class encrypt_by by_paths xor_bytes shift_left double block_count last_block message_block chain cmac zeros be mark_block key_mark
own_mark = refl

other_mark : key_mark (by_paths 4 0 0 exchanged) 2 4 0x5a04 ≡ 0x3b ∷ 0x5a ∷ 0x0e ∷ 0x51 ∷ 0xac ∷ 0x7c ∷ []
unfolding exchanged rotate1 rotate sboxes sbox γ π τ by_count forward_words forward4 forward6 forward8 forward start eight_words times register constants register_t last_word round_key encryption_key by_words after_by steps encrypt_block words_of bytes_of encrypt_bytes present_class encrypt_by by_paths xor_bytes shift_left double block_count last_block message_block chain cmac zeros be mark_block key_mark
other_mark = refl

blanked : blanking first_pair (zeros 432) 2 4 0x5a04 ≡ outcome (Ok 0) strangers_sheet
blanked = sym (code_blanks 0 first_pair (zeros 432) 2 4 0x5a04) ∙ made
  where
    made : blanking_by 0 first_pair (zeros 432) 2 4 0x5a04 ≡ outcome (Ok 0) strangers_sheet
    made = unfold blanking_by blanking_with blank_tests decided wrong_keys sheet_key_length key_bytes same class_known mcrypton_class slot_count sheet_size zeros in rw own_mark

number_1 : key_refusal (pair (zeros 7) (replicate 7 1)) strangers_sheet ≡ 1
unfolding key_refusal pair_tests key_tests decided wrong_keys sheet_key_length zeros
number_1 = refl

number_2 : key_refusal (pair (zeros 8) (zeros 8)) strangers_sheet ≡ 2
unfolding key_refusal pair_tests key_tests decided wrong_keys sheet_key_length same zeros
number_2 = refl

number_5 : key_refusal (pair (zeros 12) (replicate 12 1)) strangers_sheet ≡ 5
unfolding key_refusal pair_tests key_tests class_tests decided wrong_keys other_class sheet_key_length key_bytes same zeros be number key_class first_eight serial_header blank_header blank_slots blank_sheet
number_5 = refl

number_14 : key_refusal (pair (replicate 8 1) (zeros 8)) strangers_sheet ≡ 14
unfolding key_refusal pair_tests key_tests class_tests decided wrong_keys other_class other_keys mark_for stored_mark serial sheet_key_length key_bytes same zeros be number slots key_class edition_byte edition_of first_eight serial_header blank_header blank_slots blank_sheet exchanged
number_14 = rw other_mark

is_not_0 : {n : ℕ} (m : ℕ) → n ≡ m → m ≢ 0 → n ≢ 0
is_not_0 m e h z = h (sym e ∙ z)

each : EachStranger (Stranger strangers_sheet) seven_turns
each =
    past
    (met (is_not_0 1 number_1 (λ z. omega (arith, z)))
    (met (is_not_0 2 number_2 (λ z. omega (arith, z)))
    (met (is_not_0 5 number_5 (λ z. omega (arith, z)))
    (met (is_not_0 14 number_14 (λ z. omega (arith, z)))
    (past (past no_stranger))))))

two_slots_lem : slots strangers_sheet ≡ 2
unfolding slots number zeros be first_eight serial_header blank_header blank_slots blank_sheet
two_slots_lem = refl

answers : replies (turn_model (λ k'. key_refusal k' strangers_sheet)) seven_turns (new_model (slots strangers_sheet))
    ≡ says 0 ∷ says 1 ∷ says 2 ∷ says 5 ∷ says 14 ∷ says 0 ∷ says 0 ∷ []
unfolding forms inside after some meets well_formed replies turn_model model_step new_model answered
answers = rw (two_slots_lem, number_1, number_2, number_5, number_14)

own_page : page (finally model_step (own_calls seven_turns) (new_model (slots strangers_sheet))) 0 ≡ holds (1 ∷ [])
unfolding forms inside after some meets well_formed finally own_calls model_step new_model page
own_page = rw two_slots_lem

own_count : (finally model_step (own_calls seven_turns) (new_model (slots strangers_sheet))).count ≡ 2
unfolding forms inside after some meets well_formed finally own_calls model_step new_model
own_count = rw two_slots_lem

strangers_met : StrangersMet strangers_sheet
unfolding own_calls exchanged answer_number answer_length
strangers_met =
    record {
      blanked = gives (Ok 0) strangers_sheet blanked;
      sheet = by_blanking first_pair 4 strangers_sheet blanked (zeros_bytes 8) (ones_bytes 8);
      captions = Claim.write (more (lit< tt) none) (Claim.clear (Claim.write (more (lit< tt) none) Claim.none));
      each = each;
      answers = answers;
      page_0 = own_page;
      count = own_count;
      mark = own_mark;
      exchanged = other_mark;
    }

-- ---- the model

model_run : ModelRun
unfolding forms inside after some meets well_formed zeros replies finally new_model page answered model_step
model_run = record { answers = refl; first = refl; second = refl; count = refl; worn = refl; broken = refl; broken_answers = refl }

-- ---- two writes to a sheet that nears its last

first_write : (p : ℕ) → turn_step p keys (own (writes 0 abc)) nearly_worn ≡ (says 0, worn_one)
first_write p = turn_write p keys 0 abc nearly_worn ∙ ap (λ (o : Outcome). stepped o) exhibits.last_written

second_write : (p : ℕ) → turn_step p keys (own (writes 0 abc)) worn_one ≡ (says 8, worn_one)
second_write p = turn_write p keys 0 abc worn_one ∙ ap (λ (o : Outcome). stepped o) exhibits.worn

module _ (p : ℕ) where
  step : Turn → List ℕ → Reply × List ℕ
  step = turn_step p keys

  write : Turn
  write = own (writes 0 abc)

  two_answers : replies step (write ∷ write ∷ []) nearly_worn ≡ says 0 ∷ says 8 ∷ []
  unfolding step write replies
  two_answers =
      ap (λ (r : Reply × List ℕ). r.0 ∷ replies step (write ∷ []) r.1) (first_write p)
      ∙ ap (λ (r : Reply × List ℕ). says 0 ∷ r.0 ∷ []) (second_write p)

  left_after : finally step (write ∷ write ∷ []) nearly_worn ≡ worn_one
  unfolding step write finally
  left_after = ap (λ (r : Reply × List ℕ). finally step (write ∷ []) r.1) (first_write p) ∙ ap (λ (r : Reply × List ℕ). r.1) (second_write p)

worn_run : WornRun
unfolding step write
worn_run = record { answers = two_answers; after = left_after }

pub witnesses : Witnesses
witnesses = record { model = model_run; worn = worn_run; strangers = strangers_met; present_80 = present_met_80; present_128 = present_met_128 }
