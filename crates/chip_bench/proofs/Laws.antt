-- What is said of the bench holds.
use Rattle.std.specs.Prelude.{Ok}
use Prim.Native.Nat.{ℕ, suc, ◌%◌, ◌≤◌}
use mathlib.Core.Path.{◌≡◌, refl, sym, ap, ◌∙◌}
use mathlib.Core.Bool.{true}
use mathlib.Core.List.{List, [], ◌∷◌}
use native.Mathlib.Numerals.{add-one}
use lib.ListN.{length}
use Rattle.octets.specs.Bytes.{Bytes, zeros}
use Rattle.octets.specs.Outcome.{Outcome, decided}
use Rattle.octets.specs.Clauses.{Exactly, OneOf}
use Rattle.octets.proofs.Clauses.{reflects_yes, reflects_not, reflects_and, reflects_eqb, reflects_ltb, Means, decided_exactly, decided_refused}
use Rattle.rounds.specs.Word.{rotate1, rotate}
use Rattle.rounds.specs.Array.{Block, words, sboxes, sbox, γ, π, τ, nibble_round, φ}
use Rattle.rounds.specs.declared.Direction.TheVariants.{Encrypt}
use Rattle.rounds.proofs.Inverse.{inverse_round_lem, round_inverse}
use Rattle.schedule.specs.Schedule.{Key, by_count, forward_words, forward4, forward6, forward8, forward, backward_words, backward4, backward6, backward8, backward, start, eight_words, times, register, constants, register_t, last_word, round_key, encryption_key}
use Rattle.mcrypton.specs.Bytes.{key_length, words_of, bytes_of, encrypt_bytes}
use Rattle.mcrypton.specs.Cipher.{after_by, after, steps, encrypt_block}
use Rattle.octets.specs.BlockCalls.{Leaves}
use Rattle.mcrypton.proofs.Paths.{any_path}
use Rattle.mcrypton.proofs.WordsOf.{words_bytes, bytes_words}
use Rattle.mcrypton.proofs.ByteBlocks.{key_words, block_words, length_bytes, bytes_bytes}
use Rattle.mcrypton.proofs.KeyLengths.{reflects_length}
use Rattle.chip_bench.specs.Bench.{taken_back, leading_block}
use Rattle.chip_bench.specs.Calls.{error_number, bench_outcome, bench_tests, benching}
use Rattle.chip_bench.specs.Laws.{array_after, Arrays, OneBlock, bench_clauses, BenchCalls, Bench}
use Rattle.chip_bench.proofs.Calls.{accepts}
use Rattle.chip_bench.proofs.Leads.{block_back, leads, only}

-- ---- which array is after which round

arrays_are : (p : ℕ) (k b : List ℕ) → Arrays p k b
unfolding times after_by encrypt_bytes encrypt_block steps
arrays_are p k b =
    record {
      first = refl;
      next = λ r. rw add-one (ap bytes_of (any_path Encrypt p (suc r) (encryption_key (words_of k) (suc r)) (after Encrypt p (encryption_key (words_of k)) (words_of b) r) ∙ ap (nibble_round Encrypt (encryption_key (words_of k) (suc r))) (sym (words_bytes _))));
      last = ap (λ (a : List ℕ). bytes_of (φ a)) (sym (words_bytes _));
    }

-- ---- the one block

module _ (k : List ℕ) (r : ℕ) (wanted out : List ℕ) (tk : Bytes k) (hk : OneOf (8 ∷ 12 ∷ 16 ∷ []) (length k)) (l : r ≤ 12) (tw : Bytes wanted)
    (hw : length wanted ≡ 8) (ho : length out ≡ 8) where
  right : key_length (length k) ≡ true
  right = reflects_yes (reflects_length (length k)) hk

  key : Key (words_of k)
  key = key_words tk right

  answer : benching k r wanted out ≡ bench_outcome (Ok tt) (leading_block k r wanted)
  answer = sym (accepts k r wanted out true (sym right) refl hw ho l)

  back : Block (taken_back r (register (words_of k) r) (words_of wanted))
  back = block_back (words_of k) key r (words_of wanted) (block_words tw hw)

  even : (s : List ℕ) → length s ≡ 8 → length s % 2 ≡ 0
  even s e = ap (λ (n : ℕ). n % 2) e

  led_to : (p : ℕ) (b : List ℕ) → Bytes b → length b ≡ 8 → array_after p k r b ≡ wanted → b ≡ leading_block k r wanted
  unfolding leading_block
  led_to p b tb hb e =
      sym
      (ap bytes_of
      (ap (λ (a : List ℕ). taken_back r (register (words_of k) r) (words_of a)) (sym e)
      ∙ ap (taken_back r (register (words_of k) r)) (words_bytes _)
      ∙ only (words_of k) key p r (words_of b) (block_words tb hb))
      ∙ bytes_words tb (even b hb))

  leads_to : (p : ℕ) (b : List ℕ) → b ≡ leading_block k r wanted → array_after p k r b ≡ wanted
  unfolding leading_block
  leads_to p b e =
      ap bytes_of
      (ap (λ (x : List ℕ). after Encrypt p (encryption_key (words_of k)) x r) (ap words_of e ∙ words_bytes _)
      ∙ leads (words_of k) key p r (words_of wanted) (block_words tw hw))
      ∙ bytes_words tw (even wanted hw)

  one_block : OneBlock k r wanted out
  unfolding bench_outcome leading_block
  one_block =
      record {
        accepted = ap (λ (o : Outcome). o.number) answer;
        len = ap (λ (o : Outcome). o.len) answer;
        size = rw answer (length_bytes back);
        bytes = rw answer (bytes_bytes back);
        one = λ p b tb hb. rw answer (led_to p b tb hb, leads_to p b);
      }

-- ---- which calls are refused

module _ (k : List ℕ) (r : ℕ) (wanted out : List ℕ) where
  call_means : Means error_number (bench_tests k r wanted out) (bench_clauses k r wanted out)
  unfolding Means bench_tests bench_clauses
  call_means = (
    reflects_not (reflects_length (length k)),
    refl,
    λ t₁. (
      reflects_not (reflects_and (reflects_eqb (length wanted) 8) (reflects_eqb (length out) 8)),
      refl,
      λ t₃. (reflects_ltb 12 r, refl, λ t₁₃. tt),
    ),
  )

  call_exactly : Exactly (benching k r wanted out).number (bench_clauses k r wanted out)
  unfolding benching bench_outcome
  call_exactly = decided_exactly error_number (λ (o : Outcome). o.number) _ _ refl (λ a. refl) _ _ call_means

  call_refused : ((benching k r wanted out).number ≡ 0 → ⊥) → Leaves (benching k r wanted out) out
  unfolding benching bench_outcome
  call_refused = decided_refused error_number (λ (o : Outcome). o.number) _ _ refl (λ a. refl) (λ o. Leaves o out) (λ a h. record { len = refl; bytes_are = refl }) _

-- by computing
bench_calls : BenchCalls
unfolding rotate1 rotate sboxes sbox γ π τ by_count forward_words forward4 forward6 forward8 forward backward_words backward4 backward6 backward8 backward start eight_words times register constants register_t last_word round_key words_of bytes_of taken_back leading_block benching bench_tests bench_outcome decided key_length zeros
bench_calls = record { round_0 = refl; round_5 = refl; round_12 = refl; wrong_key_lem = refl; wrong_array = refl; wrong_output = refl; no_round = refl }

pub bench : Bench
bench =
    record {
      leads = one_block;
      arrays = arrays_are;
      inverse_round_lem = λ d key a. inverse_round_lem d;
      round_inverse = λ d key a. round_inverse d;
      exactly = call_exactly;
      refused = call_refused;
      calls = bench_calls;
      block = λ a b c d. words;
    }
