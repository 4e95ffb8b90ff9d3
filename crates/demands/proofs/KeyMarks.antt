-- The key mark does what it is for.
use Prim.Native.Nat.{ℕ}
use mathlib.Core.Path.{◌≡◌, refl, sym, ap, ◌∙◌}
use mathlib.Core.Bool.{Bool, true, false, not, ◌&&◌}
use mathlib.Core.Logic.{◌≢◌, ◌⊎◌, inl, inr}
use mathlib.Core.List.{List}
use native.Mathlib.Omega.{arith}
use lib.ListN.{length}
use borrow.Author.Tests.{eq-eqb}
use Rattle.std.specs.Prelude.{Err}
use Rattle.octets.specs.Bytes.{if◌then◌otherwise◌, zeros, same}
use Rattle.octets.specs.Outcome.{decided}
use Rattle.octets.specs.Clauses.{Answers, Exactly}
use Rattle.octets.proofs.Clauses.{reflects_no, reflects_yes, reflects_same, Means, decided_exactly}
use Rattle.octets.proofs.Compare.{same_differ}
use Rattle.layout.specs.Layout.{edition_of, key_class, edition_byte, stored_mark, fit_in, fit}
use Rattle.layout.specs.Rules.{MeetsLayout}
use Rattle.layout.proofs.Header.{edition_cases, edition_three}
use Rattle.layout.proofs.Meaning.{reflects_fit}
use Rattle.captions.specs.Answers.{Outcome, refusal_number, answer_number, answer_length, outcome}
use Rattle.captions.specs.Captions.{Keys, Ciphers, mark_for, other_keys}
use Rattle.captions.specs.Calls.{wrong_keys, other_class, key_tests, class_tests, pair_tests, caption_tests, sheet_tests, window_tests, open_tests, write_tests, read_tests, writing_with, reading_with}
use Rattle.captions.specs.declared.Refusal.TheVariants.{OtherKeys}
use Rattle.captions.specs.Runs.{Reply}
use Rattle.captions.specs.Model.{answered}
use Rattle.captions.specs.Claim.{stepped}
use Rattle.captions.specs.Refusals.{OtherMark, write_clauses, read_clauses}
use Rattle.captions.proofs.Refusals.{reflects_keys, reflects_class, reflects_mark, sheet_refusals}
use Rattle.demands.specs.Ciphers.{by_paths, writing_by, reading_by}
use Rattle.demands.specs.Steps.{Gives, key_refusal}
use Rattle.demands.specs.KeyMarks.{OtherPair, pair_clauses, KeyMarks}
use Rattle.demands.proofs.Ciphers.{classes_by_cipher, code_writes, code_reads}
use Rattle.demands.proofs.Gives.{gives}
use Rattle.demands.proofs.Strangers.{stranger_write, stranger_read}

meets : (s : List ℕ) → MeetsLayout s → fit s ≡ true
meets s m = reflects_yes (reflects_fit s) m

-- ---- another mark

module _ (p : ℕ) (k : Keys) (s : List ℕ) (o : OtherPair p k s) where
  right : wrong_keys k ≡ false
  right = reflects_no (reflects_keys k) (λ n. n o.right)

  class : other_class k s ≡ false
  class = reflects_no (reflects_class k s) (λ n. n o.class)

  other : other_keys (by_paths (key_class s) p p k) (edition_of s) s ≡ true
  unfolding other_keys
  other = rw (edition_three s o.edition, same_differ (mark_for (by_paths (key_class s) p p k) s) (stored_mark s) o.mark)

  fits : fit_in (edition_of s) s ≡ true
  unfolding fit
  fits = meets s o.fits

  other_write : (i : ℕ) (c : List ℕ) → writing_by p k s i c ≡ outcome (Err OtherKeys) s
  unfolding writing_by writing_with write_tests key_tests sheet_tests class_tests caption_tests decided
  other_write i c = rw (right, same_differ k.sealing k.checking o.unlike, fits, class, other)

  same_read : (i : ℕ) (window : List ℕ) → length window ≡ 192 → reading_by p p k s i window ≡ outcome (Err OtherKeys) (zeros 192)
  unfolding reading_by reading_with read_tests open_tests window_tests key_tests sheet_tests class_tests decided
  same_read i window l = rw (right, same_differ k.sealing k.checking o.unlike, eq-eqb (length window) 192 l, fits, class, other, l)

  other_read : (q i : ℕ) (window : List ℕ) → length window ≡ 192 → reading_by p q k s i window ≡ outcome (Err OtherKeys) (zeros 192)
  other_read q i window l = code_reads p q k s i window ∙ sym (code_reads p p k s i window) ∙ same_read i window l

-- ---- the number

pair_means : (k : Keys) (s : List ℕ) → Means refusal_number (pair_tests (edition_of s) (by_paths (key_class s) 0 0 k) k s) (pair_clauses k s)
unfolding Means pair_tests key_tests class_tests pair_clauses
pair_means k s = (
  reflects_keys k,
  refl,
  λ t₁. (
    reflects_same k.sealing k.checking,
    refl,
    λ t₂. (
      reflects_class k s,
      refl,
      λ t₅. (reflects_mark (by_paths (key_class s) 0 0 k) s, refl, λ t₁₄. tt),
    ),
  ),
)

numbers : (k : Keys) (s : List ℕ) → Exactly (key_refusal k s) (pair_clauses k s)
unfolding key_refusal
numbers k s = decided_exactly refusal_number (λ (n : ℕ). n) 0 refusal_number refl (λ a. refl) _ _ (pair_means k s)

-- ---- no mark

unmarked : (x : Ciphers) (s : List ℕ) → edition_byte s ≢ 3 → other_keys x (edition_of s) s ≡ false
unfolding other_keys
unmarked x s n = edition_cases (λ e. e.keyed && not (same (mark_for x s) (stored_mark s)) ≡ false) s (λ f g. refl) (λ h. refl) (λ h. absurd (n h))

old_stranger : (k : Keys) (s : List ℕ) → edition_byte s ≢ 3 → key_refusal k s ≢ 14
unfolding key_refusal pair_tests key_tests class_tests decided
old_stranger k s n = rw (unmarked (by_paths (key_class s) 0 0 k) s n) (go (wrong_keys k) (same k.sealing k.checking) (other_class k s))
  where
    go : (t₁ t₂ t₅ : Bool) → ◌≢◌ {A = ℕ} (if t₁ then 1 otherwise if t₂ then 2 otherwise if t₅ then 5 otherwise 0) 14
    go true t₂ t₅ e = omega (arith, e)
    go false true t₅ e = omega (arith, e)
    go false false true e = omega (arith, e)
    go false false false e = omega (arith, e)

-- 14 is no other clause's number
past : {P Q : Type 0} (m : ℕ) → (14 ≡ m → ⊥) → (P × (14 ≡ m)) ⊎ ((P → ⊥) × Q) → Q
past m n (inl h) = absurd (n h.1)
past m n (inr h) = h.1

-- and that clause is for edition 3
past_mark : {x : Ciphers} {s : List ℕ} {Q : Type 0} → edition_byte s ≢ 3 → (OtherMark x s × ◌≡◌ {A = ℕ} 14 14) ⊎ ((OtherMark x s → ⊥) × Q) → Q
past_mark n (inl h) = absurd (n h.0.edition)
past_mark n (inr h) = h.1

old_write : (p : ℕ) (k : Keys) (s : List ℕ) (i : ℕ) (c : List ℕ) → edition_byte s ≢ 3 → (writing_by p k s i c).number ≢ 14
unfolding Answers write_clauses
old_write p k s i c n h =
    let a₁ = ((sheet_refusals.write k s i c).answers 14).0 (ap (λ (o : Outcome). o.number) (sym (code_writes p k s i c)) ∙ h) in
    let a₅ = past 5 (λ e. omega (arith, e)) (past 4 (λ e. omega (arith, e)) (past 2 (λ e. omega (arith, e)) (past 1 (λ e. omega (arith, e)) a₁))) in
    let a₁₅ = past 7 (λ e. omega (arith, e)) (past 6 (λ e. omega (arith, e)) (past_mark n a₅)) in
    let a₀ = past 8 (λ e. omega (arith, e)) (past 15 (λ e. omega (arith, e)) a₁₅) in
    omega (arith, a₀)

old_read : (p q : ℕ) (k : Keys) (s : List ℕ) (i : ℕ) (window : List ℕ) → edition_byte s ≢ 3 → (reading_by p q k s i window).number ≢ 14
unfolding Answers read_clauses
old_read p q k s i window n h =
    let a₁ = ((sheet_refusals.read k s i window).answers 14).0 (ap (λ (o : Outcome). o.number) (sym (code_reads p q k s i window)) ∙ h) in
    let a₄ = past 4 (λ e. omega (arith, e)) (past 3 (λ e. omega (arith, e)) (past 2 (λ e. omega (arith, e)) (past 1 (λ e. omega (arith, e)) a₁))) in
    let a₁₀ = past 10 (λ e. omega (arith, e)) (past 9 (λ e. omega (arith, e)) (past 6 (λ e. omega (arith, e)) (past_mark n (past 5 (λ e. omega (arith, e)) a₄)))) in
    omega (arith, a₁₀)

-- a step in plain values
stepped_gives : {o : Outcome} {n : ℕ} {bytes : List ℕ} → stepped o ≡ (answered n, bytes) → Gives o n 0 bytes
unfolding answered
stepped_gives e = record { number_is = ap (λ (p : Reply × List ℕ). p.0.number) e; len_is = ap (λ (p : Reply × List ℕ). p.0.len) e; bytes_are = ap (λ (p : Reply × List ℕ). p.1) e }

pub key_marks : KeyMarks
unfolding answer_number answer_length
key_marks =
    record {
      write = λ p k s i c o. gives (Err OtherKeys) s (other_write p k s o i c);
      read = λ p q k s i window o l. gives (Err OtherKeys) (zeros 192) (other_read p k s o q i window l);
      stranger = λ p k s i c m h. stepped_gives (stranger_write p k s i c (meets s m) h);
      stranger_read = λ p q k s i window m h l. stepped_gives (stranger_read p q k s i window (meets s m) h l);
      ask = λ p k s f e r u c m. record { fits = f; edition = e; right = r; unlike = u; class = c; mark = m };
      numbers = numbers;
      old_stranger = old_stranger;
      old_write = old_write;
      old_read = old_read;
      ciphers = classes_by_cipher;
    }
