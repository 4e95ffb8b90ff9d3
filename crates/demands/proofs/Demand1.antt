-- Demand 1 holds.
use Prim.Native.Nat.{ℕ, ◌≤◌, ◌<◌}
use mathlib.Core.Path.{◌≡◌, refl, sym, ap, ◌∙◌}
use mathlib.Core.List.{List, [], ◌∷◌}
use mathlib.Core.Logic.{◌↔◌, inl, inr}
use native.Mathlib.Omega.{arith}
use borrow.Author.Tests.{eqb-true, eq-eqb}
use Rattle.octets.specs.Clauses.{Clause, ◌when◌, Answers, Exactly}
use Rattle.octets.proofs.Clauses.{reflects_yes}
use Rattle.text.proofs.Laws.{text_laws}
use Rattle.octets.specs.BlockCalls.{block_clauses}
use Rattle.mcrypton.proofs.Refusals.{block_refusals}
use Rattle.present.proofs.Refusals.{block_refusals as present_refusals}
use Rattle.modes.specs.Refusals.{mac_clauses}
use Rattle.modes.proofs.Refusals.{mac_refusals}
use Rattle.chip_bench.specs.Laws.{bench_clauses}
use Rattle.chip_bench.proofs.Laws.{bench}
use Rattle.panels.specs.Laws.{panel_clauses}
use Rattle.panels.proofs.Laws.{panels}
use Rattle.calendar.specs.Calendar.{DayOutcome, DateOutcome, day_of_date, date_of_day}
use Rattle.calendar.proofs.Laws.{calendar_laws}
use Rattle.cipher.specs.Key.{key_bytes}
use Rattle.layout.specs.Rules.{KeyFits}
use Rattle.layout.proofs.Meaning.{reflects_fits}
use Rattle.layout.proofs.Places.{places}
use Rattle.captions.specs.Refusals.{write_clauses, clear_clauses, read_clauses, blank_clauses}
use Rattle.captions.proofs.Refusals.{sheet_refusals}
use Rattle.dated.specs.Laws.{dated_clauses}
use Rattle.dated.proofs.Laws.{dated_reads}
use Rattle.exhibits.proofs.Exhibits.{exhibits}
use Rattle.demands.specs.Demand1.{NoneApplies, Decides, Demand1}

-- ---- where no clause gives 0, a call answers 0 exactly if none applies

unfoldable pub NoZero : List Clause → Type 0
NoZero [] = Unit {0}
NoZero ((n when P) ∷ clauses) = (0 ≡ n → ⊥) × NoZero clauses

none_applies : (clauses : List Clause) → NoZero clauses → Answers clauses 0 → NoneApplies clauses
unfolding NoZero Answers NoneApplies
none_applies [] z a = tt
none_applies ((n when P) ∷ clauses) z (inl h) = absurd (z.0 h.1)
none_applies ((n when P) ∷ clauses) z (inr h) = (h.0, none_applies clauses z.1 h.1)

answers_zero : (clauses : List Clause) → NoneApplies clauses → Answers clauses 0
unfolding Answers NoneApplies
answers_zero [] n = refl
answers_zero ((m when P) ∷ clauses) n = inr (n.0, answers_zero clauses n.1)

pub decides : {number : ℕ} {clauses : List Clause} {Left : Type 0} → NoZero clauses → Exactly number clauses → ((number ≡ 0 → ⊥) → Left) → Decides number clauses Left
decides {clauses = clauses} z e r =
    record {
      first_that_applies = e.answers;
      accepted_exactly_if_none_applies = (λ h. none_applies clauses z ((e.answers 0).0 h), λ n. (e.answers 0).1 (answers_zero clauses n));
      refused = r;
    }

-- ---- the conversions

late : (n : ℕ) → (n ≤ 36524 → ⊥) → 36524 < n
late n h = omega arith

no_day : (y m d : ℕ) → ((day_of_date y m d).number ≡ 0 → ⊥) → (day_of_date y m d).day ≡ 0
no_day y m d h = ap (λ (o : DayOutcome). o.day) (calendar_laws.date_refused y m d (λ is. h ((calendar_laws.date_accepted y m d).1 is)))

no_date : (n : ℕ) → ((date_of_day n).number ≡ 0 → ⊥) → ((date_of_day n).year ≡ 0) × ((date_of_day n).month ≡ 0) × ((date_of_day n).day ≡ 0)
no_date n h =
    let e = calendar_laws.day_refused n (late n (λ l. h ((calendar_laws.day_accepted n).1 l))) in
    (ap (λ (o : DateOutcome). o.year) e, ap (λ (o : DateOutcome). o.month) e, ap (λ (o : DateOutcome). o.day) e)

-- ---- key bytes

size : (n t : ℕ) {m : ℕ} → key_bytes t ≡ m → KeyFits n t ↔ (n ≡ m)
size n t e = (λ f. eqb-true n (key_bytes t) (reflects_yes (reflects_fits n t) f) ∙ e, λ h. (reflects_fits n t).holds (eq-eqb n (key_bytes t) (h ∙ sym e)))

-- ---- the whole

pub demand1 : Demand1
unfolding NoZero block_clauses mac_clauses bench_clauses panel_clauses write_clauses clear_clauses read_clauses blank_clauses dated_clauses key_bytes
demand1 =
    record {
      encrypt_block_lem = λ p k b out. decides ((λ e. omega (arith, e)), ((λ e. omega (arith, e)), tt)) ((block_refusals.encrypt p).exactly k b out) ((block_refusals.encrypt p).refused k b out);
      decrypt_block_lem = λ p k b out. decides ((λ e. omega (arith, e)), ((λ e. omega (arith, e)), tt)) ((block_refusals.decrypt p).exactly k b out) ((block_refusals.decrypt p).refused k b out);
      present_encrypt_block = λ k b out. decides ((λ e. omega (arith, e)), ((λ e. omega (arith, e)), tt)) (present_refusals.encrypt.exactly k b out) (present_refusals.encrypt.refused k b out);
      present_decrypt_block = λ k b out. decides ((λ e. omega (arith, e)), ((λ e. omega (arith, e)), tt)) (present_refusals.decrypt.exactly k b out) (present_refusals.decrypt.refused k b out);
      cmac = λ k m out. decides ((λ e. omega (arith, e)), ((λ e. omega (arith, e)), tt)) (mac_refusals.exactly k m out) (mac_refusals.refused k m out);
      bench_block = λ k r wanted out. decides ((λ e. omega (arith, e)), ((λ e. omega (arith, e)), ((λ e. omega (arith, e)), tt))) (bench.exactly k r wanted out) (bench.refused k r wanted out);
      panel = λ k first x out. decides ((λ e. omega (arith, e)), ((λ e. omega (arith, e)), ((λ e. omega (arith, e)), tt))) (panels.exactly k first x out) (panels.refused k first x out);
      blank_sheet_lem = λ k s n t v. decides ((λ e. omega (arith, e)), ((λ e. omega (arith, e)), ((λ e. omega (arith, e)), ((λ e. omega (arith, e)), tt)))) (sheet_refusals.blank k s n t v) (sheet_refusals.refused_blank k s n t v);
      write = λ k s i c. decides ((λ e. omega (arith, e)), ((λ e. omega (arith, e)), ((λ e. omega (arith, e)), ((λ e. omega (arith, e)), ((λ e. omega (arith, e)), ((λ e. omega (arith, e)), ((λ e. omega (arith, e)), ((λ e. omega (arith, e)), ((λ e. omega (arith, e)), tt))))))))) (sheet_refusals.write k s i c) (sheet_refusals.refused_write k s i c);
      clear = λ s i. decides ((λ e. omega (arith, e)), ((λ e. omega (arith, e)), tt)) (sheet_refusals.clear s i) (sheet_refusals.refused_clear s i);
      read = λ k s i window. decides ((λ e. omega (arith, e)), ((λ e. omega (arith, e)), ((λ e. omega (arith, e)), ((λ e. omega (arith, e)), ((λ e. omega (arith, e)), ((λ e. omega (arith, e)), ((λ e. omega (arith, e)), ((λ e. omega (arith, e)), ((λ e. omega (arith, e)), tt))))))))) (sheet_refusals.read k s i window) (sheet_refusals.refused_read k s i window);
      dated_read = λ k s t i day window. decides ((λ e. omega (arith, e)), ((λ e. omega (arith, e)), ((λ e. omega (arith, e)), ((λ e. omega (arith, e)), ((λ e. omega (arith, e)), ((λ e. omega (arith, e)), ((λ e. omega (arith, e)), ((λ e. omega (arith, e)), ((λ e. omega (arith, e)), ((λ e. omega (arith, e)), ((λ e. omega (arith, e)), ((λ e. omega (arith, e)), tt)))))))))))) (dated_reads.read k s t i day window) (dated_reads.refused k s t i day window);
      day_of_date_lem = λ y m d. decides ((λ e. omega (arith, e)), tt) (calendar_laws.date_exactly y m d) (no_day y m d);
      date_of_day_lem = λ n. decides ((λ e. omega (arith, e)), tt) (calendar_laws.day_exactly n) (no_date n);
      places = places;
      key_sizes = λ n. (size n 4 refl, size n 6 refl, size n 8 refl, size n 21 refl, size n 24 refl);
      texts = text_laws;
      block_calls = block_refusals.calls;
      present_block_calls = present_refusals.calls;
      mac_calls = mac_refusals.calls;
      bench_calls = bench.calls;
      panel_calls = panels.calls;
      sheet_calls = exhibits;
      sheets = sheet_refusals;
    }
