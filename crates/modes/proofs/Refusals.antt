-- Demand 1, of the public CMAC, holds.
use Prim.Native.Nat.{ℕ}
use mathlib.Core.Path.{◌≡◌, refl}
use mathlib.Core.List.{List}
use native.Mathlib.Omega.{arith}
use lib.ListN.{length}
use Rattle.octets.specs.Bytes.{zeros}
use Rattle.octets.specs.Outcome.{Outcome, decided}
use Rattle.octets.specs.Clauses.{Exactly}
use Rattle.octets.proofs.Clauses.{reflects_not, reflects_eqb, Means, Refuses, decided_exactly, decided_refused, decided_zero}
use Rattle.rounds.specs.Word.{rotate1, rotate}
use Rattle.rounds.specs.Array.{sboxes, sbox, γ, π, τ}
use Rattle.schedule.specs.Schedule.{by_count, forward_words, forward4, forward6, forward8, forward, start, eight_words, times, register, constants, register_t, last_word, round_key, encryption_key}
use Rattle.mcrypton.specs.Cipher.{by_words, after_by, steps, encrypt_block}
use Rattle.mcrypton.specs.Bytes.{key_length, words_of, bytes_of, encrypt_bytes}
use Rattle.octets.specs.BlockCalls.{error_number, block_outcome, Leaves}
use Rattle.mcrypton.proofs.KeyLengths.{reflects_length}
use Rattle.modes.specs.Xor.{xor_bytes}
use Rattle.modes.specs.Cmac.{shift_left, double, block_count, last_block, message_block, chain, cmac}
use Rattle.modes.specs.Answers.{authenticating}
use Rattle.modes.specs.Refusals.{mac_clauses, MacCalls, MacRefusals}

module _ (k m out : List ℕ) where
  mac_exactly : Exactly (authenticating k m out).number (mac_clauses k out)
  unfolding authenticating block_outcome mac_clauses Means
  mac_exactly =
      decided_exactly error_number (λ (o : Outcome). o.number) _ _ refl (λ a. refl) _ _
      (reflects_not (reflects_length (length k)), refl, λ t₁. (reflects_not (reflects_eqb (length out) 8), refl, λ t₃. tt))

  mac_refused : ((authenticating k m out).number ≡ 0 → ⊥) → Leaves (authenticating k m out) out
  unfolding authenticating block_outcome
  mac_refused =
      decided_refused error_number (λ (o : Outcome). o.number) _ _ refl (λ a. refl) (λ o. Leaves o out) (λ a h. record { len = refl; bytes_are = refl }) _

  mac_accepted : (authenticating k m out).number ≡ 0 → Leaves (authenticating k m out) (cmac (encrypt_bytes 0 k) m)
  unfolding authenticating block_outcome Refuses
  mac_accepted =
      decided_zero error_number (λ (o : Outcome). o.number) _ _ refl (λ a. refl) (λ o. Leaves o (cmac (encrypt_bytes 0 k) m))
      (record { len = refl; bytes_are = refl }) _ (λ e. omega (arith, e), ((λ e. omega (arith, e)), tt))

-- by computing
mac_calls : MacCalls
unfolding rotate1 rotate sboxes sbox γ π τ by_count forward_words forward4 forward6 forward8 forward start eight_words times register constants register_t last_word round_key encryption_key by_words after_by steps encrypt_block words_of bytes_of encrypt_bytes xor_bytes shift_left double block_count last_block message_block chain cmac zeros authenticating block_outcome decided key_length
mac_calls = record { mac_4 = refl; mac_6 = refl; mac_8 = refl; empty = refl; wrong_key_lem = refl; wrong_span = refl }

pub mac_refusals : MacRefusals
mac_refusals = record { exactly = mac_exactly; refused = mac_refused; accepted = mac_accepted; calls = mac_calls }
