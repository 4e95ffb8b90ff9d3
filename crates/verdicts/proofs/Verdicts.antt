-- What a verdict says of a table of tests, and the verdict of each table, one law for each way out.
use mathlib.Core.Path.{◌≡◌, refl, sym, ap, ◌∙◌, subst}
use mathlib.Core.Bool.{Bool, true, false, not, ◌&&◌, ◌||◌}
use mathlib.Core.List.{List, [], ◌∷◌, ◌++◌}
use Prim.Native.Nat.{ℕ, ◌≤◌, ◌<◌}
use lib.Dec.{eqb}
use lib.ListN.{length}
use borrow.Author.Tests.{eq-eqb, ne_eqb, eqb-true, le-leb, lt-leb, leb-false, le-ltb, lt-ltb, not-false}
use Rattle.std.specs.Prelude.{Result, Ok, Err}
use Rattle.octets.specs.Bytes.{same}
use Rattle.octets.specs.Outcome.{Row, ◌gives◌, decided}
use Rattle.octets.proofs.Outcome.{decided_first, decided_rest, decided_none, decided_append}
use Rattle.cipher.specs.Key.{class_known, key_bytes, sheet_key_length}
use Rattle.cipher.proofs.Promise.{class_small}
use Rattle.layout.specs.Layout.{new_edition, edition_of, slots, key_class, last_write, sheet_size, slot_count, blank_slot, fit}
use Rattle.layout.specs.Shape.{shape_of, FitSlot}
use Rattle.layout.specs.declared.Shape.{Shape}
use Rattle.layout.proofs.Header.{count_high}
use Rattle.layout.proofs.Fits.{fit_facts, fits_header, fits_class_small, slot_long}
use Rattle.faults.specs.Faults.{fault_of}
use Rattle.captions.specs.Answers.{first_of}
use Rattle.captions.specs.Captions.{Keys, pair, loaded_for, other_keys}
use Rattle.text.specs.Grammar.{well_formed}
use Rattle.captions.specs.Calls.{wrong_keys, other_class, span_row, unfit_row, class_row, mark_row, slot_row, blank_row, key_tests, caption_tests, class_tests, sheet_tests, window_tests, open_tests, write_tests, clear_tests, blank_tests}
use Rattle.captions.specs.declared.Refusal.{Refusal}
use Rattle.captions.specs.declared.Refusal.TheVariants.{WrongKey, TwinKeys, WrongSpan, UnfitSheet, OtherKeyClass, NoSuchSlot, Overlong, Worn, Blank, OtherKeys, BrokenText}
use Rattle.captions.proofs.Tables.{Unmet, unmet_first, unmet_rest, unmet_right, passed_unmet, decided_map}
use Rattle.verdicts.specs.Rows.{size_row, sheet_rows, write_rows, window_rows, open_rows, clear_rows}

-- ---- tables in general

abbrev pub Verdict : Type 0
Verdict = Result (Unit {0}) Refusal

module _ {B : Type 0} where
  pub settle : B → (Refusal → B) → Verdict → B
  settle x f (Ok u) = x
  settle x f (Err a) = f a

  module _ (rows : List (Row Refusal)) (x : B) (f : Refusal → B) where
    settled : settle x f (first_of rows) ≡ decided rows x f
    unfolding first_of settle
    settled = decided_map (settle x f) rows (Ok tt) Err

    -- a call that a table refuses
    pub refused : (a : Refusal) → Err a ≡ first_of rows → f a ≡ decided rows x f
    unfolding settle
    refused a e = ap (settle x f) e ∙ settled

    -- a call that a table lets pass
    pub accepted : Ok tt ≡ first_of rows → x ≡ decided rows x f
    unfolding settle
    accepted e = ap (settle x f) e ∙ settled

pub passed : (rows : List (Row Refusal)) → Ok tt ≡ first_of rows → Unmet rows
unfolding first_of
passed rows e = passed_unmet rows (sym e)

module _ (t : Bool) (a : Refusal) (rows : List (Row Refusal)) where
  met : t ≡ true → Err a ≡ first_of ((t gives a) ∷ rows)
  unfolding first_of
  met e = decided_first t a rows (Ok tt) Err e refl

  unmet : (v : Verdict) → t ≡ false → v ≡ first_of rows → v ≡ first_of ((t gives a) ∷ rows)
  unfolding first_of
  unmet v e h = decided_rest t a rows (Ok tt) Err e h

none : Ok tt ≡ first_of []
unfolding first_of
none = decided_none (Ok tt) Err

module _ (xs ys : List (Row Refusal)) where
  pub append_refused : (a : Refusal) → Err a ≡ first_of xs → Err a ≡ first_of (xs ++ ys)
  unfolding first_of
  append_refused a e = refused xs (decided ys (Ok tt) Err) Err a e ∙ sym (decided_append xs ys (Ok tt) Err)

  pub append_passed : Ok tt ≡ first_of xs → (v : Verdict) → v ≡ first_of ys → v ≡ first_of (xs ++ ys)
  unfolding first_of
  append_passed e v g = g ∙ accepted xs (decided ys (Ok tt) Err) Err e ∙ sym (decided_append xs ys (Ok tt) Err)

-- ---- tests 1 and 2

module _ (ks kc : List ℕ) (r : Bool) (e : r ≡ sheet_key_length (length ks)) where
  pub wrong_sealing : r ≡ false → true ≡ wrong_keys (pair ks kc)
  unfolding wrong_keys
  wrong_sealing h = rw (← e, h)

  module _ (h : r ≡ true) (q : Bool) (f : q ≡ sheet_key_length (length kc)) where
    pub wrong_checking : q ≡ false → true ≡ wrong_keys (pair ks kc)
    unfolding wrong_keys
    wrong_checking g = rw (← e, h, ← f, g)

    pub lengths_left : q ≡ true → not (eqb (length ks) (length kc)) ≡ wrong_keys (pair ks kc)
    unfolding wrong_keys
    lengths_left g = rw (← e, h, ← f, g)

module _ (k : Keys) (r : Bool) (e : r ≡ wrong_keys k) where
  pub keys_wrong : r ≡ true → Err WrongKey ≡ first_of (key_tests k)
  unfolding key_tests
  keys_wrong h = met _ _ _ (sym e ∙ h)

  module _ (h : r ≡ false) (q : Bool) (f : q ≡ same k.sealing k.checking) where
    pub keys_twin : q ≡ true → Err TwinKeys ≡ first_of (key_tests k)
    unfolding key_tests
    keys_twin g = unmet _ _ _ _ (sym e ∙ h) (met _ _ _ (sym f ∙ g))

    pub keys_pass : q ≡ false → Ok tt ≡ first_of (key_tests k)
    unfolding key_tests
    keys_pass g = unmet _ _ _ _ (sym e ∙ h) (unmet _ _ _ _ (sym f ∙ g) none)

-- ---- tests 4, 5, 14 and 6, each by itself

module _ (s : List ℕ) (r : Bool) (e : r ≡ fit s) where
  pub fit_no : r ≡ false → (a : Refusal) → a ≡ UnfitSheet (fault_of s) → Err a ≡ first_of (unfit_row (edition_of s) s ∷ [])
  unfolding fit
  fit_no h a q = rw q (met _ _ _ (rw (← e, h)))

  pub fit_yes : r ≡ true → Ok tt ≡ first_of (unfit_row (edition_of s) s ∷ [])
  unfolding fit
  fit_yes h = unmet _ _ _ _ (rw (← e, h)) none

pub fit_passed : (s : List ℕ) → Ok tt ≡ first_of (unfit_row (edition_of s) s ∷ []) → fit s ≡ true
unfolding fit
fit_passed s e = not-false _ (unmet_first (passed _ e))

-- n is what was found of the class
module _ (k : List ℕ) (t n : ℕ) (f : n ≡ key_bytes t) where
  pub size_no : (length k ≡ n → ⊥) → Err OtherKeyClass ≡ first_of (size_row k t ∷ [])
  size_no l = met _ _ _ (rw (← f, ne_eqb (length k) n l))

  pub size_yes : length k ≡ n → Ok tt ≡ first_of (size_row k t ∷ [])
  size_yes l = unmet _ _ _ _ (rw (← f, eq-eqb (length k) n l)) none

-- r is what was found of the mark
module _ (k : Keys) (s : List ℕ) (r : Bool) (e : r ≡ other_keys (loaded_for (key_class s) k) (edition_of s) s) where
  pub mark_no : r ≡ true → Err OtherKeys ≡ first_of (mark_row (loaded_for (key_class s) k) (edition_of s) s ∷ [])
  mark_no h = met _ _ _ (sym e ∙ h)

  pub mark_yes : r ≡ false → Ok tt ≡ first_of (mark_row (loaded_for (key_class s) k) (edition_of s) s ∷ [])
  mark_yes h = unmet _ _ _ _ (sym e ∙ h) none

module _ (s : List ℕ) (t : fit s ≡ true) where
  pub fit_header : (edition_of s).header ≤ length s
  fit_header = fits_header s (fit_facts s t)

  module _ (h : Shape) (g : h ≡ shape_of s) where
    pub fit_class : h.class < 256
    fit_class = subst (λ (x : Shape). x.class < 256) (sym g) (unfold shape_of in fits_class_small s (fit_facts s t))

    slots_are : h.slots ≡ slots s
    slots_are = ap (λ (x : Shape). x.slots) g ∙ (unfold shape_of in refl)

    pub class_found : (k : Keys) (v : Verdict) → v ≡ first_of (size_row k.sealing h.class ∷ []) → v ≡ first_of (class_row k s ∷ [])
    unfolding other_class
    class_found k v f = f ∙ ap (λ (x : Shape). first_of (size_row k.sealing x.class ∷ [])) g ∙ (unfold shape_of in refl)

    pub slot_no : (i : ℕ) → h.slots ≤ i → Err NoSuchSlot ≡ first_of (slot_row s i ∷ [])
    slot_no i b = met _ _ _ (rw (← slots_are, le-leb h.slots i b))

    pub slot_yes : (i : ℕ) → i < h.slots → Ok tt ≡ first_of (slot_row s i ∷ [])
    slot_yes i b = unmet _ _ _ _ (rw (← slots_are, lt-leb h.slots i b)) none

-- ---- 4, 5, 14 and 6 in a row

module _ (s : List ℕ) (i : ℕ) where
  abbrev unfit_rows : List (Row Refusal)
  unfit_rows = unfit_row (edition_of s) s ∷ []

  abbrev slot_rows : List (Row Refusal)
  slot_rows = slot_row s i ∷ []

  pub clear_unfit : (a : Refusal) → Err a ≡ first_of unfit_rows → Err a ≡ first_of (clear_rows s i)
  unfolding clear_tests
  clear_unfit = append_refused unfit_rows slot_rows

  pub clear_slot : Ok tt ≡ first_of unfit_rows → (v : Verdict) → v ≡ first_of slot_rows → v ≡ first_of (clear_rows s i)
  unfolding clear_tests
  clear_slot = append_passed unfit_rows slot_rows

  module _ (k : Keys) where
    abbrev mark_rows : List (Row Refusal)
    mark_rows = mark_row (loaded_for (key_class s) k) (edition_of s) s ∷ []

    abbrev class_rows : List (Row Refusal)
    class_rows = class_row k s ∷ []

    pub sheet_unfit : (a : Refusal) → Err a ≡ first_of unfit_rows → Err a ≡ first_of (sheet_rows k s i)
    unfolding sheet_tests class_tests
    sheet_unfit = append_refused unfit_rows (class_rows ++ (mark_rows ++ slot_rows))

    module _ (p : Ok tt ≡ first_of unfit_rows) where
      pub sheet_class : (a : Refusal) → Err a ≡ first_of class_rows → Err a ≡ first_of (sheet_rows k s i)
      unfolding sheet_tests class_tests
      sheet_class a e = append_passed unfit_rows _ p _ (append_refused class_rows (mark_rows ++ slot_rows) a e)

      module _ (q : Ok tt ≡ first_of class_rows) where
        pub sheet_mark : (a : Refusal) → Err a ≡ first_of mark_rows → Err a ≡ first_of (sheet_rows k s i)
        unfolding sheet_tests class_tests
        sheet_mark a e = append_passed unfit_rows _ p _ (append_passed class_rows _ q _ (append_refused mark_rows slot_rows a e))

        pub sheet_slot : Ok tt ≡ first_of mark_rows → (v : Verdict) → v ≡ first_of slot_rows → v ≡ first_of (sheet_rows k s i)
        unfolding sheet_tests class_tests
        sheet_slot e v f = append_passed unfit_rows _ p _ (append_passed class_rows _ q _ (append_passed mark_rows slot_rows e v f))

-- ---- tests 7, 15 and 8

module _ (s c : List ℕ) where
  pub caption_long : 192 < length c → Err Overlong ≡ first_of (caption_tests s c)
  unfolding caption_tests
  caption_long l = met _ _ _ (lt-ltb 192 (length c) l)

  module _ (l : length c ≤ 192) (r : Bool) (t : r ≡ well_formed c) where
    pub caption_broken : r ≡ false → Err BrokenText ≡ first_of (caption_tests s c)
    unfolding caption_tests
    caption_broken h = unmet _ _ _ _ (le-ltb 192 (length c) l) (met _ _ _ (rw (← t, h)))

    module _ (h : r ≡ true) (w : ℕ) (e : w ≡ last_write s) where
      pub caption_worn : w ≡ 4294967295 → Err Worn ≡ first_of (caption_tests s c)
      unfolding caption_tests
      caption_worn q = unmet _ _ _ _ (le-ltb 192 (length c) l) (unmet _ _ _ _ (rw (← t, h)) (met _ _ _ (rw (← e, eq-eqb w 4294967295 q))))

      pub caption_pass : (w ≡ 4294967295 → ⊥) → Ok tt ≡ first_of (caption_tests s c)
      unfolding caption_tests
      caption_pass q = unmet _ _ _ _ (le-ltb 192 (length c) l) (unmet _ _ _ _ (rw (← t, h)) (unmet _ _ _ _ (rw (← e, ne_eqb w 4294967295 q)) none))

-- ---- blanking: tests 1, 2, 3 and 5

pub count_at_most : (n : ℕ) (r : Bool) → r ≡ slot_count n → r ≡ true → n ≤ 256
count_at_most n r e h = count_high n (sym e ∙ h)

or_true : (b : Bool) → b || true ≡ true
or_true true = refl
or_true false = refl

or_false : (b : Bool) → b || false ≡ b
or_false true = refl
or_false false = refl

-- r is what was found of t
module _ (k : Keys) (s : List ℕ) (n t : ℕ) (r : Bool) (e : r ≡ class_known t) where
  pub blank_class : r ≡ false → Err WrongKey ≡ first_of (blank_tests k s n t)
  unfolding blank_tests
  blank_class h = met _ _ _ (rw (← e, h) (or_true (wrong_keys k)))

  module _ (h : r ≡ true) where
    pub blank_small : t < 256
    blank_small = class_small t (sym e ∙ h)

    span_row_lem : Row Refusal
    span_row_lem = not (slot_count n && eqb (length s) (sheet_size new_edition.header n)) gives WrongSpan

    after_keys : List (Row Refusal)
    after_keys = span_row_lem ∷ size_row k.sealing t ∷ []

    -- with a right t, 1 and 2 are those of the keys
    keys_first : blank_tests k s n t ≡ key_tests k ++ after_keys
    unfolding blank_tests key_tests after_keys span_row_lem
    keys_first = rw (← e, h, or_false (wrong_keys k))

    pub blank_keys : (a : Refusal) → Err a ≡ first_of (key_tests k) → Err a ≡ first_of (blank_tests k s n t)
    blank_keys a f = rw keys_first (append_refused _ after_keys a f)

    -- q is what was found of n and the length
    module _ (f : Ok tt ≡ first_of (key_tests k)) (q : Bool) (d : q ≡ slot_count n && eqb (length s) (sheet_size new_edition.header n)) where
      pub blank_span : q ≡ false → Err WrongSpan ≡ first_of (blank_tests k s n t)
      unfolding after_keys span_row_lem
      blank_span g = rw keys_first (append_passed _ after_keys f _ (met _ _ _ (rw (← d, g))))

      pub blank_size : q ≡ true → (w : Verdict) → w ≡ first_of (size_row k.sealing t ∷ []) → w ≡ first_of (blank_tests k s n t)
      unfolding after_keys span_row_lem
      blank_size g w l = rw keys_first (append_passed _ after_keys f w (unmet _ _ _ w (rw (← d, g)) l))

-- ---- test 9: r is what was found of the slot

module _ (s : List ℕ) (i : ℕ) (r : Bool) (e : r ≡ blank_slot (edition_of s) s i) where
  pub written_no : r ≡ true → Err Blank ≡ first_of (blank_row (edition_of s) s i ∷ [])
  written_no h = met _ _ _ (sym e ∙ h)

  pub written_yes : r ≡ false → Ok tt ≡ first_of (blank_row (edition_of s) s i ∷ [])
  written_yes h = unmet _ _ _ _ (sym e ∙ h) none

-- ---- the tables of a write and of a read, part after part

module _ (k : Keys) (s c : List ℕ) (i : ℕ) where
  pub write_keys : (a : Refusal) → Err a ≡ first_of (key_tests k) → Err a ≡ first_of (write_rows k s i c)
  unfolding write_tests
  write_keys a = append_refused _ _ a

  module _ (p : Ok tt ≡ first_of (key_tests k)) where
    pub write_sheet : (a : Refusal) → Err a ≡ first_of (sheet_rows k s i) → Err a ≡ first_of (write_rows k s i c)
    unfolding write_tests
    write_sheet a e = append_passed _ _ p _ (append_refused _ _ a e)

    pub write_caption : Ok tt ≡ first_of (sheet_rows k s i) → (v : Verdict) → v ≡ first_of (caption_tests s c) → v ≡ first_of (write_rows k s i c)
    unfolding write_tests
    write_caption e v f = append_passed _ _ p _ (append_passed _ _ e v f)

module _ (k : Keys) (s : List ℕ) (i n : ℕ) where
  pub window_keys : (a : Refusal) → Err a ≡ first_of (key_tests k) → Err a ≡ first_of (window_rows k s i n)
  unfolding window_tests
  window_keys a = append_refused _ _ a

  module _ (p : Ok tt ≡ first_of (key_tests k)) where
    pub window_span : (n ≡ 192 → ⊥) → Err WrongSpan ≡ first_of (window_rows k s i n)
    unfolding window_tests
    window_span l = append_passed _ _ p _ (met _ _ _ (rw (ne_eqb n 192 l)))

    pub window_sheet : n ≡ 192 → (v : Verdict) → v ≡ first_of (sheet_rows k s i) → v ≡ first_of (window_rows k s i n)
    unfolding window_tests
    window_sheet l v f = append_passed _ _ p v (unmet _ _ _ v (rw (eq-eqb n 192 l)) f)

  pub read_window : (a : Refusal) → Err a ≡ first_of (window_rows k s i n) → Err a ≡ first_of (open_rows k s i n)
  unfolding open_tests
  read_window a = append_refused _ _ a

  pub read_written : Ok tt ≡ first_of (window_rows k s i n) → (v : Verdict) → v ≡ first_of (blank_row (edition_of s) s i ∷ []) → v ≡ first_of (open_rows k s i n)
  unfolding open_tests
  read_written = append_passed _ _

-- ---- what is known once tests are passed

-- tests 4 to 6 leave a slot of a sheet that meets the layout
pub rows_slot : (k : Keys) (s : List ℕ) (i : ℕ) → Unmet (sheet_rows k s i) → FitSlot s i
unfolding sheet_tests fit
rows_slot k s i u =
    record {
      fits = not-false _ (unmet_first u);
      below = leb-false _ _ (unmet_first (unmet_right (class_tests (edition_of s) (loaded_for (key_class s) k) k s) (slot_row s i ∷ []) (unmet_rest u)));
    }

pub passed_long : (k : Keys) (s : List ℕ) (i : ℕ) → Ok tt ≡ first_of (sheet_rows k s i) → 8 ≤ length s
passed_long k s i e = slot_long s i (rows_slot k s i (passed _ e))

module _ (k : Keys) (s : List ℕ) (i n : ℕ) where
  past_keys : Unmet (window_rows k s i n) → Unmet (span_row n ∷ sheet_rows k s i)
  unfolding window_tests
  past_keys u = unmet_right (key_tests k) _ u

  pub window_whole : Unmet (window_rows k s i n) → n ≡ 192
  window_whole u = eqb-true n 192 (not-false _ (unmet_first (past_keys u)))

  pub window_slot : Unmet (window_rows k s i n) → FitSlot s i
  window_slot u = rows_slot k s i (unmet_rest (past_keys u))

  pub window_passed : Ok tt ≡ first_of (window_rows k s i n) → FitSlot s i
  window_passed e = window_slot (passed _ e)

-- ---- 4 and 6 of clear, where r is what was found of the layout

module _ (s : List ℕ) (i : ℕ) (r : Bool) (e : r ≡ fit s) where
  pub clear_no : r ≡ false → (a : Refusal) → a ≡ UnfitSheet (fault_of s) → Err a ≡ first_of (clear_rows s i)
  clear_no h a q = clear_unfit s i a (fit_no s r e h a q)

  pub clear_yes : r ≡ true → (v : Verdict) → v ≡ first_of (slot_row s i ∷ []) → v ≡ first_of (clear_rows s i)
  clear_yes h v g = clear_slot s i (fit_yes s r e h) v g
