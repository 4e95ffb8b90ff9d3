-- Exactly which dated reads are refused, by which number, and what they leave; with the law beside the undated read, the statement.
use Prim.Native.Nat.{ℕ, ◌<◌}
use mathlib.Core.Path.{◌≡◌, refl, ap, ◌∙◌}
use mathlib.Core.List.{List, [], ◌∷◌, ◌++◌}
use native.Mathlib.Omega.{arith}
use lib.ListN.{length, replicate}
use borrow.Author.Tests.{leb-false, not-false}
use Rattle.std.specs.Prelude.{Err}
use Rattle.octets.specs.Bytes.{number, zeros, all_zero, same, all_below, be}
use Rattle.octets.specs.Outcome.{decided}
use Rattle.octets.specs.Clauses.{Exactly, Each, none, and}
use Rattle.octets.proofs.Clauses.{Means, reflects_not, reflects_eqb, reflects_leb, reflects_ltb, reflects_same, decided_exactly, decided_refused}
use Rattle.cipher.specs.Key.{mcrypton_class, key_bytes, sheet_key_length}
use Rattle.layout.specs.Layout.{edition_of, slots, key_class, edition_byte, last_write, rule1, sheet_size, mark_at, field_at, slot_count, mark, field, mark_number, mark_length, written_mark, blank_slot, fit_slot, fit_in}
use Rattle.layout.proofs.Fits.{fit_rules}
use Rattle.layout.proofs.Meaning.{reflects_blank}
use Rattle.captions.specs.Answers.{Outcome, outcome, answer_number}
use Rattle.captions.specs.Captions.{Keys, pair, loaded_for, other_keys}
use Rattle.captions.specs.Calls.{wrong_keys, other_class, key_tests}
use Rattle.captions.specs.Refusals.{Leaves}
use Rattle.captions.proofs.Refusals.{reflects_keys, reflects_unfit, reflects_class, reflects_mark, reflects_altered, refusal_leaves, keys_of, keyed_with, keyed_meets, keyed_slots, other, other_reads}
use Rattle.terms.specs.Terms.{count, opening, closing, fit_terms, on_show}
use Rattle.terms.specs.Rules.{OnShow}
use Rattle.terms.proofs.Meaning.{reflects_terms, reflects_show}
use Rattle.dated.specs.declared.DatedRefusal.{DatedRefusal}
use Rattle.dated.specs.declared.DatedRefusal.TheVariants.{Read, UnfitTerms, NoSuchDate, NotOnShow}
use Rattle.dated.specs.Calls.{DatedOutcome, dated_number, dated_length, dated_point, of_terms, dated_outcome, undated, dated_tests, dating_with, dating}
use Rattle.dated.specs.Laws.{dated_clauses, DatedOf, TermsMet, always_open, DatedReads}
use Rattle.dated.proofs.Beside.{beside}
use Rattle.dated.proofs.Open.{in_term, one_day, opened}
use Rattle.dated.proofs.Spelled.{refusals}

-- ---- the table means the clauses

module _ (k : Keys) (s t : List ℕ) (i day : ℕ) (window : List ℕ) where
  dated_means : Means (λ r. dated_number (Err r)) (dated_tests (edition_of s) (loaded_for (key_class s) k) k s t i day window) (dated_clauses k s t i day window)
  unfolding Means dated_tests undated key_tests dated_clauses dated_number answer_number
  dated_means = (
    reflects_keys k,
    refl,
    λ t₁. (
      reflects_same k.sealing k.checking,
      refl,
      λ t₂. (
        reflects_not (reflects_eqb (length window) 192),
        refl,
        λ t₃. (
          reflects_unfit s,
          refl,
          λ t₄. (
            reflects_not (reflects_terms (slots s) t),
            refl,
            λ tₜ. (
              reflects_class k s,
              refl,
              λ t₅. (
                reflects_ltb 36524 day,
                refl,
                λ t₁₁. (
                  reflects_mark (loaded_for (key_class s) k) s,
                  refl,
                  λ t₁₄. (
                    reflects_leb (slots s) i,
                    refl,
                    λ t₆. (
                      reflects_blank (edition_of s) s (fit_rules (edition_of s) s (not-false _ t₄)) i (leb-false (slots s) i t₆),
                      refl,
                      λ t₉. (
                        reflects_not (reflects_show (slots s) t i day),
                        refl,
                        λ t₁₂.
                            (reflects_altered (loaded_for (key_class s) k) (edition_of s) s i, refl, λ t₁₀. tt),
                      ),
                    ),
                  ),
                ),
              ),
            ),
          ),
        ),
      ),
    ),
  )

  dated_exactly : Exactly (dating k s t i day window).outcome.number (dated_clauses k s t i day window)
  unfolding dating dating_with dated_outcome dated_number answer_number
  dated_exactly = decided_exactly (λ r. dated_number (Err r)) (λ (d : DatedOutcome). d.outcome.number) _ _ refl (λ a. refl) _ _ dated_means

  -- a refusal of the undated read, and one of the three
  refused_leaves : (r : DatedRefusal) (bytes : List ℕ) → (dated_number (Err r) ≡ 0 → ⊥) → Leaves (dated_outcome (Err r) bytes).outcome bytes
  unfolding dated_outcome dated_number dated_length dated_point outcome
  refused_leaves (Read r) bytes h = refusal_leaves r bytes
  refused_leaves UnfitTerms bytes h = record { len = refl; bytes_are = refl }
  refused_leaves NoSuchDate bytes h = record { len = refl; bytes_are = refl }
  refused_leaves NotOnShow bytes h = record { len = refl; bytes_are = refl }

  dated_refused : ((dating k s t i day window).outcome.number ≡ 0 → ⊥) → Leaves (dating k s t i day window).outcome (zeros (length window))
  unfolding dating dating_with dated_outcome dated_number answer_number
  dated_refused =
      decided_refused (λ r. dated_number (Err r)) (λ (d : DatedOutcome). d.outcome.number) _ _ refl (λ a. refl) (λ d. Leaves d.outcome (zeros (length window)))
      (λ r. refused_leaves r (zeros (length window))) _

-- ---- each number is met: keys of zeros and ones, a sheet of one slot, blank or written, and a term of day 5 alone

plain_keys : ℕ → Keys
plain_keys n = pair (zeros n) (replicate n 1)

sheet_with : ℕ → List ℕ
sheet_with w = 0 ∷ 1 ∷ 4 ∷ 1 ∷ (be 4 w ++ (be 4 w ++ zeros 204))

day_5 : List ℕ
day_5 = 0 ∷ 1 ∷ 0 ∷ 5 ∷ 0 ∷ 5 ∷ []

-- by terms that are always open, the undated read of another's sheet
other_dated : DatedOf 14
other_dated =
    record {
      keys = keys_of 8;
      sheet = keyed_with other;
      terms = always_open (slots (keyed_with other));
      slot = 0;
      day = 0;
      window = zeros 192;
      answers = ap (λ (o : Outcome). o.number) (opened (keys_of 8) (keyed_with other) 0 0 (zeros 192) keyed_meets (omega (arith, keyed_slots)) (omega arith)) ∙ other_reads;
    }

every_read : Each DatedOf (1 ∷ 2 ∷ 3 ∷ 4 ∷ 5 ∷ 11 ∷ 14 ∷ 6 ∷ 9 ∷ 12 ∷ [])
unfolding plain_keys sheet_with day_5 dating dating_with dated_tests undated key_tests decided dated_outcome dated_number of_terms answer_number wrong_keys other_class other_keys sheet_key_length key_bytes same number zeros be all_zero all_below slots key_class edition_byte last_write rule1 mcrypton_class edition_of sheet_size mark_at field_at slot_count mark field mark_number mark_length written_mark blank_slot fit_slot fit_in count opening closing fit_terms on_show
every_read =
    and (record { keys = plain_keys 7; sheet = []; terms = []; slot = 0; day = 0; window = []; answers = refl })
    (and (record { keys = pair (zeros 8) (zeros 8); sheet = []; terms = []; slot = 0; day = 0; window = []; answers = refl })
    (and (record { keys = plain_keys 8; sheet = []; terms = []; slot = 0; day = 0; window = zeros 191; answers = refl })
    (and (record { keys = plain_keys 8; sheet = []; terms = []; slot = 0; day = 0; window = zeros 192; answers = refl })
    (and (record { keys = plain_keys 12; sheet = sheet_with 0; terms = day_5; slot = 0; day = 0; window = zeros 192; answers = refl })
    (and (record { keys = plain_keys 8; sheet = sheet_with 0; terms = day_5; slot = 1; day = 36525; window = zeros 192; answers = refl })
    (and other_dated
    (and (record { keys = plain_keys 8; sheet = sheet_with 0; terms = day_5; slot = 1; day = 36524; window = zeros 192; answers = refl })
    (and (record { keys = plain_keys 8; sheet = sheet_with 0; terms = day_5; slot = 0; day = 4; window = zeros 192; answers = refl })
    (and (record { keys = plain_keys 8; sheet = sheet_with 1; terms = day_5; slot = 0; day = 4; window = zeros 192; answers = refl })
    none)))))))))

terms_met : TermsMet
unfolding plain_keys sheet_with dating dating_with dated_tests undated key_tests decided dated_outcome of_terms wrong_keys sheet_key_length same number zeros be all_zero all_below slots key_class edition_byte last_write rule1 mcrypton_class edition_of sheet_size mark_at field_at slot_count mark field mark_number mark_length written_mark blank_slot fit_slot fit_in count fit_terms
terms_met = record { keys = plain_keys 8; sheet = sheet_with 0; terms = []; slot = 0; day = 0; window = zeros 192; refused_for_terms = refl }

never : (n : ℕ) (t : List ℕ) (i day : ℕ) → closing n t i < opening t i → OnShow n t i day → ⊥
never n t i day l o = omega (arith, o.from, o.to)

pub dated_reads : DatedReads
dated_reads = record { read = dated_exactly; refused = dated_refused; beside = beside; refusals = refusals; never = never; in_term = in_term; one_day = one_day; opened = opened; reads = every_read; terms_met = terms_met }
