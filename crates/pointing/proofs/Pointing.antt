-- What a refusal points at is what the record says.
use Prim.Native.Nat.{ℕ, ◌-◌, ◌≤◌}
use mathlib.Core.Path.{◌≡◌, refl, sym, ap, ◌∙◌, subst}
use mathlib.Core.Bool.{Bool, true, false, not, ◌||◌, false≢true}
use mathlib.Core.List.{List, [], ◌∷◌}
use native.Mathlib.Omega.{arith}
use lib.Dec.{eqb, leb}
use lib.ListN.{length, drop, length-drop}
use lib.Seq.{take_all}
use borrow.Author.Tests.{eqb-false, leb-false, not-true, not-false}
use Rattle.std.specs.Prelude.{Ok, Err, Some}
use Rattle.octets.specs.Bytes.{if◌then◌otherwise◌, Bytes, zeros, part, all_zero, same}
use Rattle.octets.specs.Outcome.{Row, ◌gives◌, decided}
use Rattle.octets.proofs.Clauses.{reflects_same}
use Rattle.octets.proofs.EveryByte.{part_bytes}
use Rattle.modes.specs.Laws.{ByteBlocks}
use Rattle.layout.specs.Layout.{edition_of, slots, key_class, last_write, mark_number, mark_length, mark_check, field_at, mark, field, blank_slot, fit_in, fit}
use Rattle.layout.proofs.Fits.{Rules, fit_rules, fits_class, not_blank_written, written_length, length_field}
use Rattle.layout.proofs.Meaning.{reflects_fit}
use Rattle.faults.specs.Faults.{Point, point, first_fault, fault_of, first_set}
use Rattle.faults.proofs.Laws.{first_fault_law}
use Rattle.faults.proofs.Places.{set_low, set_below, set_there, set_before}
use Rattle.captions.specs.Answers.{Outcome, outcome, refusal_number, answer_number, answer_length, refusal_point, answer_point, change_point}
use Rattle.captions.specs.Captions.{Keys, Ciphers, loaded_for, start_block, check_of, opened_field, opened, altered, change}
use Rattle.captions.specs.Calls.{key_tests, other_class, caption_tests, class_tests, sheet_tests, window_tests, open_tests, write_tests, clear_tests, read_tests, blank_tests, writing_with, clearing_with, reading_with, blanking_with, writing, clearing, reading, blanking}
use Rattle.captions.specs.Claim.{Sound}
use Rattle.captions.specs.declared.Refusal.{Refusal}
use Rattle.captions.specs.declared.Refusal.TheVariants.{WrongKey, TwinKeys, WrongSpan, UnfitSheet, OtherKeyClass, NoSuchSlot, Overlong, Worn, Blank, Altered, OtherKeys, BrokenText}
use Rattle.captions.specs.declared.Change.{Change}
use Rattle.captions.specs.declared.Change.TheVariants.{Check, Byte}
use Rattle.captions.proofs.Slot.{chaining, start_block_lem}
use Rattle.captions.proofs.Tables.{Unmet, end, next}
use Rattle.dated.specs.declared.DatedRefusal.{DatedRefusal}
use Rattle.dated.specs.declared.DatedRefusal.TheVariants.{Read, UnfitTerms, NoSuchDate, NotOnShow}
use Rattle.dated.specs.Calls.{DatedOutcome, dated_number, dated_length, dated_point, of_terms, dated_outcome, undated, dated_tests, dating_with, dating}
use Rattle.exhibits.proofs.Exhibits.{exhibits}
use Rattle.octets.proofs.Plain.{plain as plain_bytes}
use Rattle.demands.specs.Ciphers.{by_paths}
use Rattle.demands.proofs.Ciphers.{loaded_paths, paths_sound, classes_by_cipher}
use Rattle.pointing.specs.Pointing.{FirstLeft, AtChange, Points, PointsAtTerms, Never, Pointing}

-- a table, row by row
walk : {O B : Type 0} (Q : O → Type 0) (t : Bool) (a : B) (rows : List (Row B)) (x : O) (f : B → O)
    → (t ≡ true → Q (f a)) → (t ≡ false → Q (decided rows x f)) → Q (decided ((t gives a) ∷ rows) x f)
unfolding decided
walk Q true a rows x f met rest = met refl
walk Q false a rows x f met rest = rest refl

ended : {O B : Type 0} (Q : O → Type 0) (x : O) (f : B → O) → Q x → Q (decided [] x f)
unfolding decided
ended Q x f q = q

-- ---- single answers

module _ (s : List ℕ) (A : Point → Type 0) where
  accepted : (n : ℕ) (bytes : List ℕ) → Points s A (outcome (Ok n) bytes)
  unfolding outcome answer_number answer_point
  accepted n bytes = record { unfit = λ q. absurd (omega (arith, q)); altered = λ q. absurd (omega (arith, q)); nothing = λ p q. refl }

  -- a refusal that carries nothing
  plain : (r : Refusal) (bytes : List ℕ) → eqb (refusal_number r) 4 ≡ false → eqb (refusal_number r) 10 ≡ false → refusal_point r ≡ point 0 0 0 → Points s A (outcome (Err r) bytes)
  unfolding outcome answer_number answer_point
  plain r bytes n m e = record { unfit = λ q. absurd (eqb-false _ 4 n q); altered = λ q. absurd (eqb-false _ 10 m q); nothing = λ p q. e }

  at_fault : (bytes : List ℕ) → not (fit_in (edition_of s) s) ≡ true → Points s A (outcome (Err (UnfitSheet (fault_of s))) bytes)
  unfolding outcome answer_number answer_point fit
  at_fault bytes t =
      let is : first_fault s ≡ Some (fault_of s) = first_fault_law.fault_is s ((reflects_fit s).fails (not-true _ t)) in
      record {
        unfit = λ q. record {
          fault = fault_of s;
          broken = first_fault_law.broken s (fault_of s) is;
          first = λ f p b. first_fault_law.first s f p b (fault_of s) is;
        };
        altered = λ q. absurd (omega (arith, q));
        nothing = λ n m. absurd (n refl);
      }

-- ---- an altered slot

-- the first byte left over, in a field of 192 bytes
first_left : (v : List ℕ) (n : ℕ) → length v ≡ 192 → n ≤ 192 → all_zero (drop n v) ≡ false → FirstLeft v n (first_set v n (192 - n))
first_left v n l h z =
    let few : length (drop n v) ≤ 192 - n = omega (arith, length-drop n v, l) in
    let e : all_zero (part v n (192 - n)) ≡ false = ap all_zero (take_all (192 - n) (drop n v) few) ∙ z in
    record {
      past = set_low v n (192 - n);
      below = omega (arith, set_below v n (192 - n) e);
      set = set_there v n (192 - n) e;
      between = set_before v n (192 - n);
    }

module _ (x : Ciphers) (s : List ℕ) (i : ℕ) (size : length (opened x (edition_of s) s i) ≡ 192) (short : mark_length (mark (edition_of s) s i) ≤ 192) (t : altered x (edition_of s) s i ≡ true) where
  at_change : AtChange x s i (change_point i (change x (edition_of s) s i))
  unfolding altered change change_point
  at_change = go (same (check_of x (mark_number (mark (edition_of s) s i)) i (mark_length (mark (edition_of s) s i)) (field (edition_of s) s i)) (mark_check (mark (edition_of s) s i))) refl t
    where
      go : (b : Bool) → same (check_of x (mark_number (mark (edition_of s) s i)) i (mark_length (mark (edition_of s) s i)) (field (edition_of s) s i)) (mark_check (mark (edition_of s) s i)) ≡ b
          → not b || not (all_zero (drop (mark_length (mark (edition_of s) s i)) (opened x (edition_of s) s i))) ≡ true
          → AtChange x s i (change_point i (if b then Byte (first_set (opened x (edition_of s) s i) (mark_length (mark (edition_of s) s i)) (192 - mark_length (mark (edition_of s) s i))) otherwise Check))
      go true e h =
          record {
            slot = refl;
            check = (λ q. absurd (omega (arith, q)), λ n. absurd (n ((reflects_same _ _).holds e)));
            byte = (λ q. (reflects_same _ _).holds e, λ c. refl);
            at_check = λ q. absurd (omega (arith, q));
            at_byte = λ q. first_left (opened x (edition_of s) s i) (mark_length (mark (edition_of s) s i)) size short (not-true _ h);
          }
      go false e h =
          record {
            slot = refl;
            check = (λ q. (reflects_same _ _).fails e, λ n. refl);
            byte = (λ q. absurd (omega (arith, q)), λ c. absurd ((reflects_same _ _).fails e c));
            at_check = λ q. refl;
            at_byte = λ q. absurd (omega (arith, q));
          }

-- ---- the calls

write_points : (k : Keys) (s : List ℕ) (i : ℕ) (c : List ℕ) → Points s Never (writing k s i c)
unfolding writing writing_with write_tests key_tests sheet_tests class_tests caption_tests answer_number answer_point
write_points k s i c =
    walk (Points s Never) _ _ _ _ _ (λ t. plain s Never WrongKey s refl refl refl) λ t₁.
    walk (Points s Never) _ _ _ _ _ (λ t. plain s Never TwinKeys s refl refl refl) λ t₂.
    walk (Points s Never) _ _ _ _ _ (at_fault s Never s) λ t₄.
    walk (Points s Never) _ _ _ _ _ (λ t. plain s Never OtherKeyClass s refl refl refl) λ t₅.
    walk (Points s Never) _ _ _ _ _ (λ t. plain s Never OtherKeys s refl refl refl) λ t₁₄.
    walk (Points s Never) _ _ _ _ _ (λ t. plain s Never NoSuchSlot s refl refl refl) λ t₆.
    walk (Points s Never) _ _ _ _ _ (λ t. plain s Never Overlong s refl refl refl) λ t₇.
    walk (Points s Never) _ _ _ _ _ (λ t. plain s Never BrokenText s refl refl refl) λ t₁₅.
    walk (Points s Never) _ _ _ _ _ (λ t. plain s Never Worn s refl refl refl) λ t₈.
    ended (Points s Never) _ _ (accepted s Never 0 _)

clear_points : (s : List ℕ) (i : ℕ) → Points s Never (clearing s i)
unfolding clearing clearing_with clear_tests answer_number answer_point
clear_points s i =
    walk (Points s Never) _ _ _ _ _ (at_fault s Never s) λ t₄.
    walk (Points s Never) _ _ _ _ _ (λ t. plain s Never NoSuchSlot s refl refl refl) λ t₆.
    ended (Points s Never) _ _ (accepted s Never 0 _)

blank_points : (k : Keys) (s : List ℕ) (n t v : ℕ) → (blanking k s n t v).points ≡ point 0 0 0
unfolding blanking blanking_with blank_tests outcome answer_point
blank_points k s n t v =
    walk (λ (o : Outcome). o.points ≡ point 0 0 0) _ _ _ _ _ (λ t. refl) λ t₁.
    walk (λ (o : Outcome). o.points ≡ point 0 0 0) _ _ _ _ _ (λ t. refl) λ t₂.
    walk (λ (o : Outcome). o.points ≡ point 0 0 0) _ _ _ _ _ (λ t. refl) λ t₃.
    walk (λ (o : Outcome). o.points ≡ point 0 0 0) _ _ _ _ _ (λ t. refl) λ t₅.
    ended (λ (o : Outcome). o.points ≡ point 0 0 0) _ _ refl

module _ (p q : ℕ) (k : Keys) (s : List ℕ) (i : ℕ) (a : Bytes k.sealing) (b : Bytes k.checking) (y : Bytes s) where
  abbrev A : Point → Type 0
  A = AtChange (by_paths (key_class s) p q k) s i

  -- every test before 10 is passed
  module _ (keys : Unmet (key_tests k)) (t₄ : not (fit_in (edition_of s) s) ≡ false) (t₅ : other_class k s ≡ false) (t₆ : leb (slots s) i ≡ false) (t₉ : blank_slot (edition_of s) s i ≡ false) where
    rules : Rules (edition_of s) s
    rules = fit_rules (edition_of s) s (not-false _ t₄)

    sound : Sound (loaded_for (key_class s) k)
    sound = subst Sound (loaded_paths k s keys t₅ p q) (paths_sound k s keys t₅ p q (fits_class s rules) a b)

    field_blocks : ByteBlocks 24 (field (edition_of s) s i)
    unfolding field
    field_blocks = record { size = length_field (edition_of s) s rules i (leb-false (slots s) i t₆); bytes = part_bytes (field_at (edition_of s).header (slots s) i) 192 y }

    size : length (opened (loaded_for (key_class s) k) (edition_of s) s i) ≡ 192
    unfolding opened opened_field
    size =
        ((chaining (loaded_for (key_class s) k) sound ((edition_of s).tail s) (mark_number (mark (edition_of s) s i)) i).decrypts 24
        (start_block (loaded_for (key_class s) k) ((edition_of s).tail s) (mark_number (mark (edition_of s) s i)) i) (field (edition_of s) s i)
        (start_block_lem (loaded_for (key_class s) k) sound ((edition_of s).tail s) (mark_number (mark (edition_of s) s i)) i) field_blocks).size

    short : mark_length (mark (edition_of s) s i) ≤ 192
    short = written_length (last_write s) (mark (edition_of s) s i) (not_blank_written (edition_of s) s rules i (leb-false (slots s) i t₆) t₉)

    at_altered : (bytes : List ℕ) → altered (loaded_for (key_class s) k) (edition_of s) s i ≡ true → Points s A (outcome (Err (Altered i (change (loaded_for (key_class s) k) (edition_of s) s i))) bytes)
    unfolding outcome answer_number answer_point
    at_altered bytes t =
        record {
          unfit = λ e. absurd (omega (arith, e));
          altered = λ e.
              subst (λ (x : Ciphers). AtChange x s i (change_point i (change (loaded_for (key_class s) k) (edition_of s) s i))) (sym (loaded_paths k s keys t₅ p q))
              (at_change (loaded_for (key_class s) k) s i size short t);
          nothing = λ n m. absurd (m refl);
        }

  read_points : (window : List ℕ) → Points s (AtChange (by_paths (key_class s) p q k) s i) (reading k s i window)
  unfolding reading reading_with read_tests open_tests window_tests key_tests sheet_tests class_tests answer_number answer_point
  read_points window =
      let z = zeros (length window) in
      walk (Points s A) _ _ _ _ _ (λ t. plain s A WrongKey z refl refl refl) λ t₁.
      walk (Points s A) _ _ _ _ _ (λ t. plain s A TwinKeys z refl refl refl) λ t₂.
      walk (Points s A) _ _ _ _ _ (λ t. plain s A WrongSpan z refl refl refl) λ t₃.
      walk (Points s A) _ _ _ _ _ (at_fault s A z) λ t₄.
      walk (Points s A) _ _ _ _ _ (λ t. plain s A OtherKeyClass z refl refl refl) λ t₅.
      walk (Points s A) _ _ _ _ _ (λ t. plain s A OtherKeys z refl refl refl) λ t₁₄.
      walk (Points s A) _ _ _ _ _ (λ t. plain s A NoSuchSlot z refl refl refl) λ t₆.
      walk (Points s A) _ _ _ _ _ (λ t. plain s A Blank z refl refl refl) λ t₉.
      walk (Points s A) _ _ _ _ _ (at_altered (next t₁ (next t₂ end)) t₄ t₅ t₆ t₉ z) λ t₁₀.
      ended (Points s A) _ _ (accepted s A _ _)

-- ---- the dated read, with what is known of an altered slot

module _ (k : Keys) (s : List ℕ) (i : ℕ) (A : Point → Type 0)
    (at : Unmet (key_tests k) → not (fit_in (edition_of s) s) ≡ false → other_class k s ≡ false → leb (slots s) i ≡ false → blank_slot (edition_of s) s i ≡ false
    → (bytes : List ℕ) → altered (loaded_for (key_class s) k) (edition_of s) s i ≡ true → Points s A (outcome (Err (Altered i (change (loaded_for (key_class s) k) (edition_of s) s i))) bytes)) where
  -- refused for its terms, and not
  record Says (d : DatedOutcome) : Type 0 where
    terms : d.unfit_terms ≡ true → PointsAtTerms s d.outcome.points
    caption : d.unfit_terms ≡ false → Points s A d.outcome

  says_accepted : (n : ℕ) (bytes : List ℕ) → Says (dated_outcome (Ok n) bytes)
  unfolding dated_outcome dated_number dated_length dated_point of_terms outcome answer_number answer_length answer_point
  says_accepted n bytes = record { terms = λ e. absurd (false≢true e); caption = λ e. accepted s A n bytes }

  says_read : (r : Refusal) (bytes : List ℕ) → Points s A (outcome (Err r) bytes) → Says (dated_outcome (Err (Read r)) bytes)
  unfolding dated_outcome dated_number dated_length dated_point of_terms outcome answer_number answer_length answer_point
  says_read r bytes h = record { terms = λ e. absurd (false≢true e); caption = λ e. h }

  says_terms : (bytes : List ℕ) → not (fit_in (edition_of s) s) ≡ false → Says (dated_outcome (Err UnfitTerms) bytes)
  unfolding dated_outcome dated_point of_terms fit
  says_terms bytes t₄ =
      record {
        terms = λ e. record { fit = (reflects_fit s).holds (not-false _ t₄); terms = refl };
        caption = λ e. absurd (false≢true (sym e));
      }

  -- one of the other refusals that a date brings
  says_plain : (r : DatedRefusal) (bytes : List ℕ) → of_terms (Err r) ≡ false → eqb (dated_number (Err r)) 4 ≡ false → eqb (dated_number (Err r)) 10 ≡ false → dated_point (Err r) ≡ point 0 0 0
      → Says (dated_outcome (Err r) bytes)
  unfolding dated_outcome
  says_plain r bytes f n m e =
      record {
        terms = λ q. absurd (false≢true (sym f ∙ q));
        caption = λ q. record { unfit = λ q. absurd (eqb-false _ 4 n q); altered = λ q. absurd (eqb-false _ 10 m q); nothing = λ p q. e };
      }

  dated_says : (t : List ℕ) (day : ℕ) (window : List ℕ) → Says (dating k s t i day window)
  unfolding dating dating_with dated_tests key_tests undated answer_number answer_point dated_number dated_point of_terms
  dated_says u day window =
      let z = zeros (length window) in
      walk Says _ _ _ _ _ (λ t. says_read WrongKey z (plain s A WrongKey z refl refl refl)) λ t₁.
      walk Says _ _ _ _ _ (λ t. says_read TwinKeys z (plain s A TwinKeys z refl refl refl)) λ t₂.
      walk Says _ _ _ _ _ (λ t. says_read WrongSpan z (plain s A WrongSpan z refl refl refl)) λ t₃.
      walk Says _ _ _ _ _ (λ t. says_read (UnfitSheet (fault_of s)) z (at_fault s A z t)) λ t₄.
      walk Says _ _ _ _ _ (λ t. says_terms z t₄) λ tₜ.
      walk Says _ _ _ _ _ (λ t. says_read OtherKeyClass z (plain s A OtherKeyClass z refl refl refl)) λ t₅.
      walk Says _ _ _ _ _ (λ t. says_plain NoSuchDate z refl refl refl refl) λ t₁₁.
      walk Says _ _ _ _ _ (λ t. says_read OtherKeys z (plain s A OtherKeys z refl refl refl)) λ t₁₄.
      walk Says _ _ _ _ _ (λ t. says_read NoSuchSlot z (plain s A NoSuchSlot z refl refl refl)) λ t₆.
      walk Says _ _ _ _ _ (λ t. says_read Blank z (plain s A Blank z refl refl refl)) λ t₉.
      walk Says _ _ _ _ _ (λ t. says_plain NotOnShow z refl refl refl refl) λ t₁₂.
      walk Says _ _ _ _ _ (λ t. says_read (Altered i (change (loaded_for (key_class s) k) (edition_of s) s i)) z (at (next t₁ (next t₂ end)) t₄ t₅ t₆ t₉ z t)) λ t₁₀.
      ended Says _ _ (says_accepted _ _)

dated_points : (p q : ℕ) (k : Keys) (s t : List ℕ) (i day : ℕ) (window : List ℕ) → Bytes k.sealing → Bytes k.checking → Bytes s
    → (dating k s t i day window).unfit_terms ≡ false → Points s (AtChange (by_paths (key_class s) p q k) s i) (dating k s t i day window).outcome
dated_points p q k s t i day window a b y =
    (dated_says k s i (AtChange (by_paths (key_class s) p q k) s i) (at_altered p q k s i a b y) t day window).caption

-- whatever an altered slot points at
any : (s : List ℕ) (i : ℕ) (c : Change) (bytes : List ℕ) → Points s (λ p. Unit {0}) (outcome (Err (Altered i c)) bytes)
unfolding outcome answer_number
any s i c bytes = record { unfit = λ e. absurd (omega (arith, e)); altered = λ e. tt; nothing = λ n m. absurd (m refl) }

dated_terms : (k : Keys) (s t : List ℕ) (i day : ℕ) (window : List ℕ) → (dating k s t i day window).unfit_terms ≡ true
    → PointsAtTerms s (dating k s t i day window).outcome.points
dated_terms k s t i day window = (dated_says k s i (λ p. Unit {0}) (λ u t₄ t₅ t₆ t₉ bytes h. any s i _ bytes) t day window).terms

-- ---- the record

pub pointing : Pointing
pointing =
    record {
      faults = first_fault_law;
      write = write_points;
      clear = clear_points;
      blank = blank_points;
      ciphers = classes_by_cipher;
      read = λ p q k s i window a b y. read_points p q k s i a b y window;
      dated_terms = dated_terms;
      dated = dated_points;
      exhibits = exhibits;
      ask = λ s h. (plain_bytes.bytes s).1 h;
    }
