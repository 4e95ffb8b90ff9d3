-- The premises of demand 3 can be met, and say what they seem to say.
use Prim.Native.Nat.{ℕ, zero, suc, ◌+◌, ◌*◌, ◌<◌}
use mathlib.Core.Path.{◌≡◌, refl, sym, ap, ◌∙◌, subst}
use mathlib.Core.Bool.{Bool, true, false, not, ◌&&◌, ◌||◌, false≢true}
use mathlib.Core.List.{List}
use native.Mathlib.Omega.{arith}
use lib.Dec.{lit<}
use lib.ListN.{length, replicate, length-replicate}
use borrow.Author.Tests.{eq-eqb, not-false}
use Rattle.std.specs.Prelude.{Ok, Err}
use Rattle.octets.specs.Bytes.{Bytes, none, more, zeros, same}
use Rattle.captions.specs.Model.{Page, blank, holds}
use Rattle.octets.proofs.Bool.{not_both, and_left, and_both}
use Rattle.octets.proofs.Clauses.{reflects_yes}
use Rattle.octets.proofs.Compare.{same_self, same_is, same_eq, same_differ}
use Rattle.octets.proofs.EveryByte.{part_bytes}
use Rattle.octets.proofs.Zeros.{length_zeros, zeros_bytes}
use Rattle.cipher.specs.Key.{mcrypton_class, present_class, class_known, key_bytes, sheet_key_length}
use Rattle.cipher.proofs.Promise.{class_cases}
use Rattle.layout.specs.Layout.{Edition, edition1, edition2, edition3, edition_of, slots, key_class, serial, stored_mark, slot_count, sheet_size, blank_slot, fit_in, fit, first_eight, serial_header, blank_slots, blank_sheet1, blank_sheet2, blank_sheet}
use Rattle.layout.proofs.Header.{count_within, rule_classes, edition_cases, edition_one, edition_two, edition_three}
use Rattle.layout.proofs.Fits.{Rules, fit_rules}
use Rattle.layout.proofs.Meaning.{reflects_words}
use Rattle.captions.specs.Answers.{Outcome, answer_number, answer_length, outcome, first_of}
use Rattle.captions.specs.Captions.{Keys, loaded_for, key_mark, mark_for, other_keys}
use Rattle.captions.specs.Calls.{wrong_keys, key_tests, other_class, class_tests, pair_tests, blank_tests, blanking_with, blanking}
use Rattle.captions.specs.Claim.{Sound}
use Rattle.captions.proofs.Tables.{Unmet, end, next, unmet_first, unmet_rest, decided_unmet}
use Rattle.captions.proofs.KeyMark.{mark_six, mark_bytes}
use Rattle.captions.proofs.Fitted.{unused_blank}
use Rattle.captions.proofs.Editions.{fit_class}
use Rattle.captions.proofs.Effect.{keys_passed, classes_passed, class_passed}
use Rattle.captions.proofs.BlankSheets.{Made, byte_one, made_1, blanked_1, serial_below, byte_two, made_2, blanked_2, byte_three, serial_3, mark_3, made_3, length_mark_3, blanked_3}
use Rattle.demands.specs.Ciphers.{by_paths}
use Rattle.captions.specs.Turns.{none as no_stranger, past, met}
use Rattle.captions.proofs.Simulation.{asked_of_calls}
use Rattle.mcrypton.proofs.FirstHalf.{first_asks}
use Rattle.demands.specs.Steps.{Gives, Serves, BlankSheet}
use Rattle.demands.specs.Premises.{Blanked, one, two, three, UnlikeKeys, ByBlanking, Premises}
use Rattle.demands.proofs.Gives.{gives}
use Rattle.demands.proofs.Ciphers.{sealing_size, checking_size, as_long, paths_loaded, sound_paths, blank_keys, blank_known, blank_size}
use Rattle.demands.proofs.Blanking.{blank_unmet, blank_is}

-- ---- the blank sheets of each edition

-- a sheet of an edition, and what is known of it
known_of : {e : Edition} {n t : ℕ} {s : List ℕ} → Blanked e n t s → Made e n t s
known_of (one n t count class) = made_1 n t count class
known_of (two n t x count class small) = made_2 n t x count class
known_of (three n t x m count class small b six) = made_3 n t x m six b count class

of_edition : {e : Edition} {n t : ℕ} {s : List ℕ} → Blanked e n t s → edition_of s ≡ e
of_edition (one n t count class) =
    let first = byte_one (blank_sheet1 n t) (fit_rules edition1 (blank_sheet1 n t) (made_1 n t count class).fits).rule in
    edition_one (blank_sheet1 n t) (λ h. absurd (omega (arith, h, first))) (λ h. absurd (omega (arith, h, first)))
of_edition (two n t x count class small) =
    edition_two (blank_sheet2 n t x) (byte_two (blank_sheet2 n t x) (fit_rules edition2 (blank_sheet2 n t x) (made_2 n t x count class).fits).rule)
of_edition (three n t x m count class small b six) =
    edition_three (blank_sheet n t x m) (byte_three (blank_sheet n t x m) (fit_rules edition3 (blank_sheet n t x m) (made_3 n t x m six b count class).fits).rule)

-- an edition without a key mark isn't edition 3
pub other_edition : {e : Edition} {n t : ℕ} {s : List ℕ} → Blanked e n t s → e.keyed ≡ false → edition_of s ≡ edition3 → ⊥
other_edition b old h = false≢true (sym old ∙ ap (λ (e : Edition). e.keyed) (sym (of_edition b) ∙ h))

made : {e : Edition} {n t : ℕ} {s : List ℕ} → Blanked e n t s → BlankSheet s
unfolding fit
made b = record { bytes = (known_of b).bytes; fits = rw (of_edition b) (known_of b).fits; unused = (known_of b).last }

blanks : (s : List ℕ) → BlankSheet s → (i : ℕ) → i < slots s → blank_slot (edition_of s) s i ≡ true
unfolding fit
blanks s b = unused_blank (edition_of s) s (fit_rules (edition_of s) s b.fits) b.unused

only : (s : List ℕ) → BlankSheet s → Blanked (edition_of s) (slots s) (key_class s) s
unfolding fit
only s b =
    edition_cases (λ e. fit_in e s ≡ true → ((i : ℕ) → i < slots s → blank_slot e s i ≡ true) → e.classes (key_class s) ≡ true → Blanked e (slots s) (key_class s) s) s
    (λ f g h z c.
    let r = fit_rules edition1 s h in
    subst (Blanked edition1 (slots s) (key_class s)) (sym (blanked_1 s b.bytes r b.unused z)) (one (slots s) (key_class s) r.count c))
    (λ g h z c.
    let r = fit_rules edition2 s h in
    subst (Blanked edition2 (slots s) (key_class s)) (sym (blanked_2 s b.bytes r b.unused z))
    (two (slots s) (key_class s) (serial s) r.count c (serial_below edition2 refl s b.bytes r b.unused)))
    (λ g h z c.
    let r = fit_rules edition3 s h in
    subst (Blanked edition3 (slots s) (key_class s)) (sym (blanked_3 s b.bytes r b.unused z))
    (three (slots s) (key_class s) (serial s) (stored_mark s) r.count c (serial_below edition3 refl s b.bytes r b.unused) (mark_bytes_3 b.bytes) (length_mark_3 s b.bytes r b.unused)))
    b.fits (blanks s b) (rule_classes s (fit_rules (edition_of s) s b.fits).rule)
  where
    mark_bytes_3 : Bytes s → Bytes (stored_mark s)
    mark_bytes_3 h = unfold stored_mark in part_bytes 10 6 h

-- ---- the pairs that serve a blank sheet

-- a key as long as a class has key bytes
class_length : (t n : ℕ) → class_known t ≡ true → n ≡ key_bytes t → sheet_key_length n ≡ true
unfolding key_bytes sheet_key_length
class_length t n h e = rw e (class_cases (λ t. sheet_key_length (key_bytes t) ≡ true) refl refl refl refl refl t h)

-- no twin keys exactly if the two lists are not equal
unlike_same : (a b : List ℕ) → same a b ≡ false → a ≡ b → ⊥
unlike_same a b h e = not_both (same a b) (same_eq a b e) h

right_keys : (k : Keys) (t : ℕ) → class_known t ≡ true → UnlikeKeys t k → wrong_keys k ≡ false
unfolding wrong_keys
right_keys k t known u =
    rw (
      class_length t (length k.sealing) known u.sealing_size,
      class_length t (length k.checking) known u.checking_size,
      eq-eqb (length k.sealing) (length k.checking) (u.sealing_size ∙ sym u.checking_size),
    )

module _ (k : Keys) (s : List ℕ) (fits : fit s ≡ true) where
  -- that pass 14, too
  module _ (u : UnlikeKeys (key_class s) k) (own_mark : other_keys (by_paths (key_class s) 0 0 k) (edition_of s) s ≡ false) where
    own_class : other_class k s ≡ false
    unfolding other_class
    own_class = ap not (eq-eqb (length k.sealing) (key_bytes (key_class s)) u.sealing_size)

    unmet : Unmet (pair_tests (edition_of s) (by_paths (key_class s) 0 0 k) k s)
    unfolding pair_tests key_tests class_tests
    unmet =
        next (right_keys k (key_class s) (fit_class s fits) u)
        (next (same_differ k.sealing k.checking u.unlike) (next own_class (next own_mark end)))

    passing_serves : Serves k s
    unfolding first_of
    passing_serves =
        record {
          sealing = u.sealing;
          checking = u.checking;
          passes = decided_unmet (pair_tests (edition_of s) (by_paths (key_class s) 0 0 k) k s) (Ok tt) Err unmet;
        }

  -- editions 1 and 2 have no mark
  unlike_serves : (edition_of s ≡ edition3 → ⊥) → UnlikeKeys (key_class s) k → Serves k s
  unfolding other_keys
  unlike_serves old u =
      passing_serves u
      (edition_cases (λ e. (e ≡ edition3 → ⊥) → e.keyed && not (same (mark_for (by_paths (key_class s) 0 0 k) s) (stored_mark s)) ≡ false) s (λ f g n. refl) (λ g n. refl) (λ g n. absurd (n refl)) old)

  marked_serves : UnlikeKeys (key_class s) k → mark_for (by_paths (key_class s) 0 0 k) s ≡ stored_mark s → Serves k s
  unfolding other_keys
  marked_serves u h = passing_serves u (go (edition_of s).keyed)
    where
      go : (b : Bool) → b && not (same (mark_for (by_paths (key_class s) 0 0 k) s) (stored_mark s)) ≡ false
      go true = ap not (same_eq _ _ h)
      go false = refl

  serves_unlike : Serves k s → UnlikeKeys (key_class s) k
  unfolding key_tests
  serves_unlike v =
      let keys : Unmet (key_tests k) = keys_passed (edition_of s) (by_paths (key_class s) 0 0 k) k s v.passes in
      let class : other_class k s ≡ false = class_passed (edition_of s) (by_paths (key_class s) 0 0 k) k s v.passes in
      record {
        sealing = v.sealing;
        checking = v.checking;
        sealing_size = sealing_size k s keys class;
        checking_size = checking_size k s keys class;
        unlike = unlike_same k.sealing k.checking (unmet_first (unmet_rest keys));
      }

-- ---- edition 3: what blanking makes with a pair

module _ (k : Keys) (n t v : ℕ) (known : class_known t ≡ true) (few : slot_count n ≡ true) (small : v < 65536) (u : UnlikeKeys t k) where
  mark : List ℕ
  mark = key_mark (by_paths t 0 0 k) n t v

  sound : Sound (by_paths t 0 0 k)
  sound = sound_paths k t (right_keys k t known u) u.sealing_size 0 0 known u.sealing u.checking

  six : length mark ≡ 6
  unfolding mark
  six = mark_six (by_paths t 0 0 k) sound n t v

  pub blanked_pair : Blanked edition3 n t (blank_sheet n t v (key_mark (by_paths t 0 0 k) n t v))
  unfolding mark
  blanked_pair = three n t v mark few known small (mark_bytes (by_paths t 0 0 k) sound n t v) six

  pub blanked_serves : Serves k (blank_sheet n t v (key_mark (by_paths t 0 0 k) n t v))
  unfolding other_keys mark_for mark
  blanked_serves =
      let s = blank_sheet n t v (key_mark (by_paths t 0 0 k) n t v) in
      let class = (known_of blanked_pair).class in
      passing_serves k s (made blanked_pair).fits (rw class u)
      (rw (of_edition blanked_pair, class, (known_of blanked_pair).count, serial_3 n t v mark six small, mark_3 n t v mark six, same_self (key_mark (by_paths t 0 0 k) n t v)))

blanking_serves : (k : Keys) (b : List ℕ) (n t v : ℕ) → Bytes k.sealing → Bytes k.checking → v < 65536
    → (blanking k b n t v).number ≡ 0 → ByBlanking k (blanking k b n t v).bytes
unfolding blanking blank_tests
blanking_serves k b n t v sealing checking small h =
    rw (blank_is (loaded_for t k) k b n t v h, ← paths_loaded k t (blank_keys k b n t tests) size 0 0)
    (record { blank = made (blanked_pair k n t v known few small u); edition = of_edition (blanked_pair k n t v known few small u); serves = blanked_serves k n t v known few small u })
  where
    tests : Unmet (blank_tests k b n t)
    tests = blank_unmet (loaded_for t k) k b n t v h

    known : class_known t ≡ true
    known = blank_known k b n t tests

    size : length k.sealing ≡ key_bytes t
    size = blank_size k b n t tests

    few : slot_count n ≡ true
    few = and_left (slot_count n) _ (not-false _ (unmet_first (unmet_rest (unmet_rest tests))))

    u : UnlikeKeys t k
    u =
        record {
          sealing = sealing;
          checking = checking;
          sealing_size = size;
          checking_size = as_long k t (blank_keys k b n t tests) size;
          unlike = unlike_same k.sealing k.checking (unmet_first (unmet_rest tests));
        }

module _ (k : Keys) (b s : List ℕ) (w : ByBlanking k s) (l : length b ≡ length s) where
  u : UnlikeKeys (key_class s) k
  u = serves_unlike k s w.blank.fits w.serves

  known : class_known (key_class s) ≡ true
  known = fit_class s w.blank.fits

  right : wrong_keys k ≡ false
  right = right_keys k (key_class s) known u

  rules : Rules edition3 s
  unfolding fit
  rules = fit_rules edition3 s (rw (← w.edition) w.blank.fits)

  tests : Unmet (blank_tests k b (slots s) (key_class s))
  unfolding blank_tests sheet_size
  tests =
      next {t = wrong_keys k || not (class_known (key_class s))} (rw (right, known))
      (next (same_differ k.sealing k.checking u.unlike)
      (next (ap not (and_both (slot_count (slots s)) _ rules.count (eq-eqb (length b) (16 + 208 * slots s) (l ∙ rules.size))))
      (next (ap not (eq-eqb (length k.sealing) (key_bytes (key_class s)) u.sealing_size)) end)))

  -- 14 passed: the stored mark is the pair's
  mark_is : mark_for (loaded_for (key_class s) k) s ≡ stored_mark s
  unfolding class_tests other_keys
  mark_is =
      same_is _ _ (not-false _ (rw (w.edition, paths_loaded k (key_class s) right u.sealing_size 0 0) at
      (unmet_first (unmet_rest (classes_passed (edition_of s) (by_paths (key_class s) 0 0 k) k s w.serves.passes)))))

  blanked_again : blanking k b (slots s) (key_class s) (serial s) ≡ outcome (Ok 0) s
  unfolding blanking blanking_with mark_for
  blanked_again =
      decided_unmet (blank_tests k b (slots s) (key_class s)) _ _ tests
      ∙ ap (λ (m : List ℕ). outcome (Ok 0) (blank_sheet (slots s) (key_class s) (serial s) m)) mark_is
      ∙ ap (outcome (Ok 0)) (sym (blanked_3 s w.blank.bytes rules w.blank.unused (rw (← w.edition) (blanks s w.blank))))

  serves_blanking : Gives (blanking k b (slots s) (key_class s) (serial s)) 0 0 s
  unfolding answer_number answer_length
  serves_blanking = gives (Ok 0) s blanked_again

-- ---- a pair of keys for each class: all zeros and all ones

pub ones_bytes : (n : ℕ) → Bytes (replicate n 1)
ones_bytes zero = none
ones_bytes (suc n) = more (lit< tt) (ones_bytes n)

pair : (t : ℕ) → Keys
pair t = record { sealing = zeros (key_bytes t); checking = replicate (key_bytes t) 1 }

unlike : (t : ℕ) → class_known t ≡ true → UnlikeKeys t (pair t)
unfolding pair key_bytes zeros same
unlike t h =
    record {
      sealing = zeros_bytes (key_bytes t);
      checking = ones_bytes (key_bytes t);
      sealing_size = length_zeros (key_bytes t);
      checking_size = length-replicate (key_bytes t) 1;
      unlike = unlike_same (zeros (key_bytes t)) (replicate (key_bytes t) 1) (class_cases (λ t. same (zeros (key_bytes t)) (replicate (key_bytes t) 1) ≡ false) refl refl refl refl refl t h);
    }

page_cases : (p : Page) → (p ≡ blank → ⊥) → ((c : List ℕ) → p ≡ holds c → ⊥) → ⊥
page_cases blank b h = b refl
page_cases (holds c) b h = h c refl

pub premises : Premises
unfolding class_known mcrypton_class present_class key_bytes
premises =
    record {
      counts = count_within;
      class_4 = (refl, refl);
      class_6 = (refl, refl);
      class_8 = (refl, refl);
      class_21 = (refl, refl);
      class_24 = (refl, refl);
      mcryptons = λ t. ((reflects_words t).holds, reflects_yes (reflects_words t));
      made = made;
      only = only;
      of_edition = of_edition;
      count = λ b. (known_of b).count;
      class = λ b. (known_of b).class;
      blanks = blanks;
      unlike_serves = unlike_serves;
      marked_serves = marked_serves;
      serves_unlike = serves_unlike;
      ask_1 = λ n t l h w. unfold blank_sheet1 blank_slots first_eight in made (one n t (count_within n l h) (reflects_yes (reflects_words t) w));
      ask_2 = λ n t x l h w y. unfold blank_sheet2 blank_slots serial_header first_eight in made (two n t x (count_within n l h) (reflects_yes (reflects_words t) w) y);
      page_is = page_cases;
      blanking_serves = blanking_serves;
      serves_blanking = serves_blanking;
      ask_keys = λ t k a b l m d. record { sealing = a; checking = b; sealing_size = l; checking_size = m; unlike = d };
      pair = λ t h. pair t;
      unlike = unlike;
      calls = asked_of_calls;
      ask_none = λ s. no_stranger;
      ask_own = λ s c turns h. past h;
      ask_stranger = λ s k i c turns n h. met n h;
      first = first_asks;
    }

-- a sheet of two slots that blanking makes, with the pair that serves it
pub by_blanking : (k : Keys) (t : ℕ) (s : List ℕ) → blanking k (zeros 432) 2 t 0x5a04 ≡ outcome (Ok 0) s → Bytes k.sealing → Bytes k.checking → ByBlanking k s
unfolding outcome answer_number
by_blanking k t s e a b =
    subst (ByBlanking k) (ap (λ (o : Outcome). o.bytes) e) (premises.blanking_serves k (zeros 432) 2 t 0x5a04 a b (omega arith) (ap (λ (o : Outcome). o.number) e))
