-- The four calls, one law for each way out: a refusal, what the act may rely on, and the act.
use mathlib.Core.Path.{◌≡◌, sym, ap, ◌∙◌}
use mathlib.Core.Bool.{true, ◌&&◌}
use mathlib.Core.List.{List, [], ◌∷◌, ◌++◌}
use Prim.Native.Nat.{ℕ, ◌≤◌, ◌<◌}
use lib.Dec.{eqb}
use lib.ListN.{length}
use borrow.Author.Tests.{eqb-true, leb-false, ltb-false, not-false}
use Rattle.std.specs.Prelude.{Ok, Err}
use Rattle.octets.specs.Bytes.{zeros}
use Rattle.octets.specs.Outcome.{decided}
use Rattle.octets.proofs.Bool.{and_left, and_right}
use Rattle.octets.proofs.Outcome.{decided_append}
use Rattle.octets.proofs.Zeros.{length_zeros}
use Rattle.cipher.proofs.Promise.{class_small}
use Rattle.layout.specs.Layout.{new_edition, edition_of, key_class, sheet_size, slot_count, mark_length, mark, fit, blank_sheet, store_slot}
use Rattle.layout.specs.Shape.{shape_of, SlotIn, FitSlot}
use Rattle.layout.specs.declared.Shape.{Shape}
use Rattle.layout.proofs.Header.{count_high}
use Rattle.layout.proofs.Fits.{slot_header, slot_placed}
use Rattle.captions.specs.Answers.{Outcome, outcome, first_of}
use Rattle.captions.specs.Captions.{Keys, Ciphers, loaded_for, key_mark, written, cleared, opened}
use Rattle.captions.specs.Calls.{wrong_keys, blank_row, altered_row, key_tests, caption_tests, open_tests, write_tests, clear_tests, read_tests, blank_tests, writing_with, clearing_with, reading_with, blanking_with, writing, clearing, reading, blanking}
use Rattle.captions.specs.declared.Refusal.{Refusal}
use Rattle.captions.proofs.Tables.{Unmet, unmet_left, unmet_right, unmet_first, unmet_rest}
use Rattle.captions.proofs.ReadBack.{or_false_right}
use Rattle.verdicts.specs.Rows.{sheet_rows, write_rows, window_rows, open_rows, clear_rows}
use Rattle.verdicts.proofs.Verdicts.{refused, accepted, passed, rows_slot, window_whole, window_slot}
use Rattle.slots.specs.Inner.{slot_shown, Written}

-- ---- blanking

module _ (k : Keys) (s : List ℕ) (n t : ℕ) where
  pub blank_refused : (x : ℕ) (a : Refusal) → Err a ≡ first_of (blank_tests k s n t) → outcome (Err a) s ≡ blanking k s n t x
  unfolding blanking blanking_with
  blank_refused x a = refused (blank_tests k s n t) _ (λ r. outcome (Err r) s) a

  module _ (e : Ok tt ≡ first_of (blank_tests k s n t)) where
    unmet : Unmet (blank_tests k s n t)
    unmet = passed (blank_tests k s n t) e

    spans : slot_count n && eqb (length s) (sheet_size new_edition.header n) ≡ true
    unfolding blank_tests
    spans = not-false _ (unmet_first (unmet_rest (unmet_rest unmet)))

    pub blank_size : length s ≡ sheet_size new_edition.header n
    blank_size = eqb-true _ _ (and_right (slot_count n) _ spans)

    pub blank_count : n ≤ 256
    blank_count = count_high n (and_left (slot_count n) _ spans)

    pub blank_class : t < 256
    unfolding blank_tests
    blank_class = class_small t (not-false _ (or_false_right (wrong_keys k) _ (unmet_first unmet)))

    -- m is the key mark that was made
    pub blank_made : (x : ℕ) (m s' : List ℕ) → m ≡ key_mark (loaded_for t k) n t x → s' ≡ blank_sheet n t x m → outcome (Ok 0) s' ≡ blanking k s n t x
    unfolding blanking blanking_with
    blank_made x m s' f g =
        ap (outcome (Ok 0)) (g ∙ ap (blank_sheet n t x) f) ∙ accepted (blank_tests k s n t) _ (λ r. outcome (Err r) s) e

-- ---- clearing

module _ (s : List ℕ) (i : ℕ) where
  pub clear_refused : (a : Refusal) → Err a ≡ first_of (clear_rows s i) → outcome (Err a) s ≡ clearing s i
  unfolding clearing clearing_with
  clear_refused = refused (clear_rows s i) _ (λ r. outcome (Err r) s)

  module _ (e : Ok tt ≡ first_of (clear_rows s i)) where
    clear_unmet : Unmet (clear_rows s i)
    clear_unmet = passed (clear_rows s i) e

    clear_slot : FitSlot s i
    unfolding clear_tests fit
    clear_slot = record { fits = not-false _ (unmet_first clear_unmet); below = leb-false _ _ (unmet_first (unmet_rest clear_unmet)) }

    pub clear_header : (edition_of s).header ≤ length s
    clear_header = slot_header s i clear_slot

    pub clear_placed : (h : Shape) → h ≡ shape_of s → SlotIn s h i
    clear_placed = slot_placed s i clear_slot

    pub clear_made : (s' : List ℕ) → s' ≡ store_slot (edition_of s) s i (zeros 16) (zeros 192) → outcome (Ok 0) s' ≡ clearing s i
    unfolding clearing clearing_with cleared
    clear_made s' g = ap (outcome (Ok 0)) g ∙ accepted (clear_rows s i) _ (λ r. outcome (Err r) s) e

-- ---- writing

module _ (k : Keys) (s c : List ℕ) (i : ℕ) where
  pub write_refused : (a : Refusal) → Err a ≡ first_of (write_rows k s i c) → outcome (Err a) s ≡ writing k s i c
  unfolding writing writing_with
  write_refused = refused (write_rows k s i c) _ (λ r. outcome (Err r) s)

  module _ (e : Ok tt ≡ first_of (write_rows k s i c)) where
    past_keys : Unmet (sheet_rows k s i ++ caption_tests s c)
    unfolding write_tests
    past_keys = unmet_right (key_tests k) (sheet_rows k s i ++ caption_tests s c) (passed (write_rows k s i c) e)

    pub write_short : length c ≤ 192
    unfolding caption_tests
    write_short = ltb-false _ _ (unmet_first (unmet_right (sheet_rows k s i) (caption_tests s c) past_keys))

    pub write_slot : FitSlot s i
    write_slot = rows_slot k s i (unmet_left (sheet_rows k s i) (caption_tests s c) past_keys)

    pub write_made : (s' : List ℕ) → s' ≡ written (loaded_for (key_class s) k) (edition_of s) s i c → outcome (Ok 0) s' ≡ writing k s i c
    unfolding writing writing_with
    write_made s' g = ap (outcome (Ok 0)) g ∙ accepted (write_rows k s i c) _ (λ r. outcome (Err r) s) e

-- ---- reading: w is the window after it was filled with zeros

module _ (k : Keys) (s window w : List ℕ) (i : ℕ) (g : w ≡ zeros (length window)) where
  size : length w ≡ length window
  size = ap length g ∙ length_zeros (length window)

  -- what test 10 and the read come to
  rest : ℕ → Outcome
  rest m =
      let x : Ciphers = loaded_for (key_class s) k in
      decided (altered_row x (edition_of s) s i ∷ []) (outcome (Ok (mark_length (mark (edition_of s) s i))) (opened x (edition_of s) s i)) (λ r. outcome (Err r) (zeros m))

  reading_is : reading k s i window ≡ decided (open_rows k s i (length w)) (rest (length window)) (λ r. outcome (Err r) (zeros (length window)))
  unfolding reading reading_with read_tests rest
  reading_is = rw (decided_append, size)

  pub read_refused : (a : Refusal) → Err a ≡ first_of (open_rows k s i (length w)) → outcome (Err a) w ≡ reading k s i window
  read_refused a e = ap (outcome (Err a)) g ∙ refused (open_rows k s i (length w)) (rest (length window)) (λ r. outcome (Err r) (zeros (length window))) a e ∙ sym reading_is

  module _ (e : Ok tt ≡ first_of (open_rows k s i (length w))) where
    read_unmet : Unmet (window_rows k s i (length w) ++ (blank_row (edition_of s) s i ∷ []))
    unfolding open_tests
    read_unmet = passed (open_rows k s i (length w)) e

    window_unmet : Unmet (window_rows k s i (length w))
    window_unmet = unmet_left (window_rows k s i (length w)) _ read_unmet

    whole : length window ≡ 192
    whole = sym size ∙ window_whole k s i (length w) window_unmet

    pub read_written : Written s i
    read_written = record { slot = window_slot k s i (length w) window_unmet; marked = unmet_first (unmet_right (window_rows k s i (length w)) _ read_unmet) }

    pub read_window : w ≡ zeros 192
    read_window = g ∙ ap zeros whole

    pub read_made : (o : Outcome) → o ≡ slot_shown (loaded_for (key_class s) k) s i → o ≡ reading k s i window
    unfolding slot_shown rest
    read_made o u =
        u
        ∙ ap rest (sym whole)
        ∙ accepted (open_rows k s i (length w)) (rest (length window)) (λ r. outcome (Err r) (zeros (length window))) e
        ∙ sym reading_is
