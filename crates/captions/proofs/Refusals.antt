-- Demand 1, of the calls on a sheet, holds.
use Prim.Native.Nat.{ℕ, zero, suc, ◌+◌, ◌-◌, ◌*◌, ◌≤◌}
use mathlib.Core.Path.{◌≡◌, refl, sym, ap, ◌∙◌, subst}
use mathlib.Core.Bool.{Bool, true, false, not, ◌||◌, false≢true}
use mathlib.Core.List.{List, [], ◌∷◌, ◌++◌}
use mathlib.Core.Logic.{◌⊎◌, inl, inr}
use native.Mathlib.Omega.{arith}
use lib.Dec.{eqb}
use lib.ListN.{length, get_or, drop, replicate}
use lib.Seq.{get_or-drop}
use Rattle.std.specs.Prelude.{Ok, Err}
use borrow.Author.Tests.{eq-eqb, ne_eqb, leb-false, not-true, not-false}
use Rattle.octets.specs.Bytes.{if◌then◌otherwise◌, number, zeros, all_zero, same, all_below, be}
use Rattle.octets.specs.Outcome.{decided}
use Rattle.octets.specs.Clauses.{Exactly, OneOf, Each, none, and}
use Rattle.octets.proofs.Clauses.{Reflects, reflects_not, reflects_and, reflects_or, reflects_as, reflects_eqb, reflects_leb, reflects_ltb, reflects_same, Means, decided_exactly, decided_refused}
use Rattle.octets.proofs.Compare.{same_is}
use Rattle.octets.proofs.Zeros.{all_zero_is, get_or_zeros}
use Rattle.text.specs.Grammar.{forms, inside, after, some, meets, well_formed}
use Rattle.text.proofs.Grammar.{reflects_utf8}
use Rattle.cipher.specs.Key.{mcrypton_class, present_class, class_known, key_bytes, sheet_key_length}
use Rattle.layout.specs.Layout.{Edition, edition_of, rule1, rule3, slots, key_class, edition_byte, last_write, serial, stored_mark, slot_count, sheet_size, mark_at, field_at, mark_number, mark_length, mark_check, mark, field, blank_slot, fit_slot, fit_in, fit, blank_sheet}
use Rattle.layout.specs.Rules.{Classes, KeyFits, MeetsLayout}
use Rattle.layout.proofs.Header.{edition_cases}
use Rattle.layout.proofs.Fits.{fit_rules}
use Rattle.layout.proofs.Meaning.{reflects_fit, reflects_blank, reflects_classes, reflects_fits}
use Rattle.captions.specs.Answers.{Answer, Outcome, refusal_number, answer_number, answer_length, outcome}
use Rattle.captions.specs.Captions.{Keys, pair, Ciphers, loaded_for, mark_for, key_mark, other_keys, check_of, opened, altered}
use Rattle.captions.specs.Calls.{wrong_keys, other_class, key_tests, caption_tests, class_tests, sheet_tests, window_tests, open_tests, write_tests, clear_tests, read_tests, blank_tests, writing_with, clearing_with, reading_with, blanking_with, writing, clearing, reading, blanking}
use Rattle.captions.specs.Refusals.{RightKeys, RightClass, OtherMark, IsAltered, check_differs, byte_left, write_clauses, clear_clauses, read_clauses, blank_clauses, Leaves, WriteOf, ClearOf, ReadOf, BlankOf, SheetRefusals}
use Rattle.captions.proofs.Accepted.{zero_read, zero_write, zero_clear, zero_blank}
use Rattle.captions.specs.declared.Refusal.{Refusal}

-- ---- the keys

reflects_length : (n : ℕ) → Reflects (sheet_key_length n) (OneOf (8 ∷ 10 ∷ 12 ∷ 16 ∷ []) n)
unfolding sheet_key_length OneOf
reflects_length n = reflects_or (reflects_eqb n 8) (reflects_or (reflects_eqb n 10) (reflects_or (reflects_eqb n 12) (reflects_eqb n 16)))

-- the test looks at both lengths, and then whether they are the same
pub reflects_keys : (k : Keys) → Reflects (wrong_keys k) (RightKeys k → ⊥)
unfolding wrong_keys
reflects_keys k =
    reflects_not
    (reflects_as (λ h. (h.0, sym h.1.1)) (λ r. (r.0, (subst (OneOf (8 ∷ 10 ∷ 12 ∷ 16 ∷ [])) (sym r.1) r.0, sym r.1)))
    (reflects_and (reflects_length (length k.sealing)) (reflects_and (reflects_length (length k.checking)) (reflects_eqb (length k.sealing) (length k.checking)))))

-- ---- the sheet and the slot

pub reflects_unfit : (s : List ℕ) → Reflects (not (fit_in (edition_of s) s)) (MeetsLayout s → ⊥)
unfolding fit
reflects_unfit s = reflects_not (reflects_fit s)

pub reflects_class : (k : Keys) (s : List ℕ) → Reflects (other_class k s) (KeyFits (length k.sealing) (key_class s) → ⊥)
unfolding other_class
reflects_class k s = reflects_not (reflects_fits (length k.sealing) (key_class s))

-- edition 3 alone has a key mark
keyed_three : (s : List ℕ) → (edition_of s).keyed ≡ eqb (edition_byte s) 3
keyed_three s =
    edition_cases (λ e. e.keyed ≡ eqb (edition_byte s) 3) s (λ f g. sym (ne_eqb (edition_byte s) 3 g)) (λ h. sym (ne_eqb (edition_byte s) 3 (λ g. omega (arith, h, g)))) (λ h. sym (eq-eqb (edition_byte s) 3 h))

pub reflects_mark : (x : Ciphers) (s : List ℕ) → Reflects (other_keys x (edition_of s) s) (OtherMark x s)
unfolding other_keys
reflects_mark x s =
    rw (keyed_three s)
    (reflects_as (λ h. record { edition = h.0; differs = h.1 }) (λ m. (m.edition, m.differs))
    (reflects_and (reflects_eqb (edition_byte s) 3) (reflects_not (reflects_same (mark_for x s) (stored_mark s)))))

-- a byte that isn't zero, where not all are
record Left (v : List ℕ) (n : ℕ) : Type 0 where
  place : ℕ
  past : n ≤ place
  not_zero : get_or v place 0 ≡ 0 → ⊥

left_byte : (v : List ℕ) → all_zero v ≡ false → Left v 0
unfolding all_zero
left_byte [] h = absurd (false≢true (sym h))
left_byte (zero ∷ v) h = let l = left_byte v h in record { place = suc l.place; past = omega arith; not_zero = l.not_zero }
left_byte (suc x ∷ v) h = record { place = 0; past = omega arith; not_zero = λ e. omega (arith, e) }

left_past : (v : List ℕ) (n : ℕ) → all_zero (drop n v) ≡ false → Left v n
left_past v n h =
    let l = left_byte (drop n v) h in
    record { place = n + l.place; past = omega arith; not_zero = λ e. l.not_zero (get_or-drop n v l.place 0 ∙ e) }

zero_past : (v : List ℕ) (n j : ℕ) → all_zero (drop n v) ≡ true → n ≤ j → get_or v j 0 ≡ 0
zero_past v n j h l =
    let q : n + (j - n) ≡ j = omega arith in
    sym (ap (λ (m : ℕ). get_or v m 0) q)
    ∙ sym (get_or-drop n v (j - n) 0)
    ∙ ap (λ (u : List ℕ). get_or u (j - n) 0) (all_zero_is (drop n v) h)
    ∙ get_or_zeros (length (drop n v)) (j - n)

reflects_left : (v : List ℕ) (n : ℕ) → Reflects (not (all_zero (drop n v))) (Left v n)
reflects_left v n = record { holds = λ e. left_past v n (not-true _ e); fails = λ e l. l.not_zero (zero_past v n l.place (not-false _ e) l.past) }

pub reflects_altered : (x : Ciphers) (e : Edition) (s : List ℕ) (i : ℕ) → Reflects (altered x e s i) (IsAltered x e s i)
unfolding altered
reflects_altered x e s i = reflects_as into from (reflects_or (reflects_not (reflects_same _ _)) (reflects_left (opened x e s i) (mark_length (mark e s i))))
  where
    into : (check_of x (mark_number (mark e s i)) i (mark_length (mark e s i)) (field e s i) ≡ mark_check (mark e s i) → ⊥) ⊎ Left (opened x e s i) (mark_length (mark e s i)) → IsAltered x e s i
    into (inl d) = check_differs d
    into (inr l) = byte_left l.place l.past l.not_zero

    from : IsAltered x e s i → (check_of x (mark_number (mark e s i)) i (mark_length (mark e s i)) (field e s i) ≡ mark_check (mark e s i) → ⊥) ⊎ Left (opened x e s i) (mark_length (mark e s i))
    from (check_differs d) = inl d
    from (byte_left j l d) = inr (record { place = j; past = l; not_zero = d })

-- ---- the tables mean the clauses

write_means : (k : Keys) (s : List ℕ) (i : ℕ) (c : List ℕ) → Means refusal_number (write_tests (edition_of s) (loaded_for (key_class s) k) k s i c) (write_clauses k s i c)
unfolding Means write_tests key_tests sheet_tests class_tests caption_tests write_clauses
write_means k s i c = (
  reflects_keys k,
  refl,
  λ t₁. (
    reflects_same k.sealing k.checking,
    refl,
    λ t₂. (
      reflects_unfit s,
      refl,
      λ t₄. (
        reflects_class k s,
        refl,
        λ t₅. (
          reflects_mark (loaded_for (key_class s) k) s,
          refl,
          λ t₁₄. (
            reflects_leb (slots s) i,
            refl,
            λ t₆. (
              reflects_ltb 192 (length c),
              refl,
              λ t₇.
                  (reflects_not (reflects_utf8 c), refl, λ t₁₅. (reflects_eqb (last_write s) 4294967295, refl, λ t₈. tt)),
            ),
          ),
        ),
      ),
    ),
  ),
)

clear_means : (s : List ℕ) (i : ℕ) → Means refusal_number (clear_tests (edition_of s) s i) (clear_clauses s i)
unfolding Means clear_tests clear_clauses
clear_means s i = (reflects_unfit s, refl, λ t₄. (reflects_leb (slots s) i, refl, λ t₆. tt))

read_means : (k : Keys) (s : List ℕ) (i : ℕ) (window : List ℕ) → Means refusal_number (read_tests (edition_of s) (loaded_for (key_class s) k) k s i window) (read_clauses k s i window)
unfolding Means read_tests open_tests window_tests key_tests sheet_tests class_tests read_clauses
read_means k s i window = (
  reflects_keys k,
  refl,
  λ t₁. (
    reflects_same k.sealing k.checking,
    refl,
    λ t₂. (
      reflects_not (reflects_eqb (length window) 192),
      refl,
      λ t₃. (
        reflects_unfit s,
        refl,
        λ t₄. (
          reflects_class k s,
          refl,
          λ t₅. (
            reflects_mark (loaded_for (key_class s) k) s,
            refl,
            λ t₁₄. (
              reflects_leb (slots s) i,
              refl,
              λ t₆. (
                reflects_blank (edition_of s) s (fit_rules (edition_of s) s (not-false _ t₄)) i (leb-false (slots s) i t₆),
                refl,
                λ t₉.
                    (reflects_altered (loaded_for (key_class s) k) (edition_of s) s i, refl, λ t₁₀. tt),
              ),
            ),
          ),
        ),
      ),
    ),
  ),
)

-- wrong keys, or a wrong t
reflects_keys_class : (k : Keys) (t : ℕ) → Reflects (wrong_keys k || not (class_known t)) (RightClass k t → ⊥)
reflects_keys_class k t = go (wrong_keys k) (not (class_known t)) (reflects_keys k) (reflects_not (reflects_classes t))
  where
    go : (a b : Bool) → Reflects a (RightKeys k → ⊥) → Reflects b (Classes t → ⊥) → Reflects (a || b) (RightClass k t → ⊥)
    go true b p q = record { holds = λ e r. p.holds refl r.0; fails = λ e. absurd (false≢true (sym e)) }
    go false true p q = record { holds = λ e r. q.holds refl r.1; fails = λ e. absurd (false≢true (sym e)) }
    go false false p q = record { holds = λ e. absurd (false≢true e); fails = λ e h. p.fails refl (λ r. q.fails refl (λ w. h (r, w))) }

blank_means : (k : Keys) (s : List ℕ) (n t : ℕ) → Means refusal_number (blank_tests k s n t) (blank_clauses k s n t)
unfolding Means blank_tests blank_clauses slot_count sheet_size
blank_means k s n t = (
  reflects_keys_class k t,
  refl,
  λ t₁. (
    reflects_same k.sealing k.checking,
    refl,
    λ t₂. (
      reflects_not
          (reflects_as (λ h. (h.0.0, h.0.1, h.1)) (λ b. ((b.0, b.1), b.2))
          (reflects_and (reflects_and (reflects_leb 1 n) (reflects_leb n 256)) (reflects_eqb (length s) (16 + 208 * n)))),
      refl,
      λ t₃. (reflects_not (reflects_fits (length k.sealing) t), refl, λ t₅. tt),
    ),
  ),
)

-- ---- a refusal

refusal_length : (a : Answer) → (answer_number a ≡ 0 → ⊥) → answer_length a ≡ 0
unfolding answer_number answer_length
refusal_length (Ok n) h = absurd (h refl)
refusal_length (Err r) h = refl

pub leaves : (a : Answer) (bytes : List ℕ) → (answer_number a ≡ 0 → ⊥) → Leaves (outcome a bytes) bytes
unfolding outcome
leaves a bytes h = record { len = refusal_length a h; bytes_are = refl }

pub refusal_leaves : (r : Refusal) (bytes : List ℕ) → Leaves (outcome (Err r) bytes) bytes
unfolding outcome answer_length
refusal_leaves r bytes = record { len = refl; bytes_are = refl }

module _ (k : Keys) (s : List ℕ) (i : ℕ) where
  module _ (c : List ℕ) where
    write_exactly : Exactly (writing k s i c).number (write_clauses k s i c)
    unfolding writing writing_with outcome answer_number
    write_exactly = decided_exactly refusal_number (λ (o : Outcome). o.number) _ _ refl (λ a. refl) _ _ (write_means k s i c)

    write_refused : ((writing k s i c).number ≡ 0 → ⊥) → Leaves (writing k s i c) s
    unfolding writing writing_with outcome answer_number
    write_refused = decided_refused refusal_number (λ (o : Outcome). o.number) _ _ refl (λ a. refl) (λ o. Leaves o s) (λ r h. refusal_leaves r s) _

  module _ (window : List ℕ) where
    read_exactly : Exactly (reading k s i window).number (read_clauses k s i window)
    unfolding reading reading_with outcome answer_number
    read_exactly = decided_exactly refusal_number (λ (o : Outcome). o.number) _ _ refl (λ a. refl) _ _ (read_means k s i window)

    read_refused : ((reading k s i window).number ≡ 0 → ⊥) → Leaves (reading k s i window) (zeros (length window))
    unfolding reading reading_with outcome answer_number
    read_refused = decided_refused refusal_number (λ (o : Outcome). o.number) _ _ refl (λ a. refl) (λ o. Leaves o (zeros (length window))) (λ r h. refusal_leaves r (zeros (length window))) _

module _ (s : List ℕ) (i : ℕ) where
  clear_exactly : Exactly (clearing s i).number (clear_clauses s i)
  unfolding clearing clearing_with outcome answer_number
  clear_exactly = decided_exactly refusal_number (λ (o : Outcome). o.number) _ _ refl (λ a. refl) _ _ (clear_means s i)

  clear_refused : ((clearing s i).number ≡ 0 → ⊥) → Leaves (clearing s i) s
  unfolding clearing clearing_with outcome answer_number
  clear_refused = decided_refused refusal_number (λ (o : Outcome). o.number) _ _ refl (λ a. refl) (λ o. Leaves o s) (λ r h. refusal_leaves r s) _

module _ (k : Keys) (s : List ℕ) (n t v : ℕ) where
  blank_exactly : Exactly (blanking k s n t v).number (blank_clauses k s n t)
  unfolding blanking blanking_with outcome answer_number
  blank_exactly = decided_exactly refusal_number (λ (o : Outcome). o.number) _ _ refl (λ a. refl) _ _ (blank_means k s n t)

  blank_refused : ((blanking k s n t v).number ≡ 0 → ⊥) → Leaves (blanking k s n t v) s
  unfolding blanking blanking_with outcome answer_number
  blank_refused = decided_refused refusal_number (λ (o : Outcome). o.number) _ _ refl (λ a. refl) (λ o. Leaves o s) (λ r h. refusal_leaves r s) _

  blank_accepted : (blanking k s n t v).number ≡ 0 → Leaves (blanking k s n t v) (blank_sheet n t v (key_mark (loaded_for t k) n t v))
  unfolding blanking outcome answer_length
  blank_accepted h = let is = zero_blank (loaded_for t k) k s n t v h in record { len = ap (λ (o : Outcome). o.len) is; bytes_are = ap (λ (o : Outcome). o.bytes) is }

-- ---- an accepted call's length

read_length : (k : Keys) (s : List ℕ) (i : ℕ) (window : List ℕ) → (reading k s i window).number ≡ 0 → (reading k s i window).len ≡ mark_length (mark (edition_of s) s i)
unfolding reading outcome answer_length
read_length k s i window h = ap (λ (o : Outcome). o.len) (zero_read (edition_of s) (loaded_for (key_class s) k) k s i window h)

write_length : (k : Keys) (s : List ℕ) (i : ℕ) (c : List ℕ) → (writing k s i c).number ≡ 0 → (writing k s i c).len ≡ 0
unfolding writing outcome answer_length
write_length k s i c h = ap (λ (o : Outcome). o.len) (zero_write (edition_of s) (loaded_for (key_class s) k) k s i c h)

clear_length : (s : List ℕ) (i : ℕ) → (clearing s i).number ≡ 0 → (clearing s i).len ≡ 0
unfolding clearing outcome answer_length
clear_length s i h = ap (λ (o : Outcome). o.len) (zero_clear (edition_of s) s i h)

-- ---- each number is met: keys of zeros and ones, a sheet of one slot, and the same worn

-- the first write number and the count of slots as they stand in a header of edition 1
sheet_with : ℕ → List ℕ
sheet_with w = 0 ∷ 1 ∷ 4 ∷ 1 ∷ (be 4 w ++ zeros 208)

pub keys_of : ℕ → Keys
keys_of n = pair (zeros n) (replicate n 1)

-- a sheet of edition 3 with one slot, every byte of whose key mark is a
pub keyed_with : ℕ → List ℕ
keyed_with a = 0 ∷ 1 ∷ 4 ∷ 3 ∷ 0 ∷ 0 ∷ 0 ∷ 0 ∷ 0 ∷ 0 ∷ a ∷ a ∷ a ∷ a ∷ a ∷ a ∷ zeros 208

-- six bytes that aren't the key mark m: zeros, or else ones
unlike_byte : List ℕ → ℕ
unlike_byte m = if same m (replicate 6 0) then 1 otherwise 0

unlike_differs : (m : List ℕ) → same m (replicate 6 (unlike_byte m)) ≡ false
unfolding unlike_byte
unlike_differs m = go (same m (replicate 6 0)) refl
  where
    go : (b : Bool) → same m (replicate 6 0) ≡ b → same m (replicate 6 (if b then 1 otherwise 0)) ≡ false
    go true h = rw (same_is m (replicate 6 0) h) (unfold same in refl)
    go false h = h

-- the key mark of the keys on such a sheet
own_mark : List ℕ
own_mark = key_mark (loaded_for 4 (keys_of 8)) 1 4 0

module _ (a : ℕ) (d : same own_mark (replicate 6 a) ≡ false) where
  other_write : (writing (keys_of 8) (keyed_with a) 0 []).number ≡ 14
  unfolding own_mark keyed_with keys_of writing writing_with write_tests key_tests sheet_tests class_tests caption_tests decided outcome answer_number wrong_keys other_class other_keys mark_for stored_mark serial sheet_key_length key_bytes class_known mcrypton_class same number zeros all_zero all_below slots key_class edition_byte last_write rule3 edition_of sheet_size mark_at field_at slot_count mark field blank_slot fit_slot fit_in
  other_write = rw d

  other_read : (reading (keys_of 8) (keyed_with a) 0 (zeros 192)).number ≡ 14
  unfolding own_mark keyed_with keys_of reading reading_with read_tests open_tests window_tests key_tests sheet_tests class_tests decided outcome answer_number wrong_keys other_class other_keys mark_for stored_mark serial sheet_key_length key_bytes class_known mcrypton_class same number zeros all_zero all_below slots key_class edition_byte last_write rule3 edition_of sheet_size mark_at field_at slot_count mark field blank_slot fit_slot fit_in
  other_read = rw d

-- a mark that isn't theirs, on a sheet that meets the layout
pub other : ℕ
other = unlike_byte own_mark

pub keyed_meets : MeetsLayout (keyed_with other)
unfolding keyed_with fit fit_in edition_of rule3 class_known mcrypton_class number zeros all_zero all_below slots key_class edition_byte last_write sheet_size mark_at field_at slot_count mark field blank_slot fit_slot
keyed_meets = (reflects_fit (keyed_with other)).holds refl

pub keyed_slots : slots (keyed_with other) ≡ 1
unfolding keyed_with slots number
keyed_slots = refl

pub other_reads : (reading (keys_of 8) (keyed_with other) 0 (zeros 192)).number ≡ 14
unfolding other
other_reads = other_read other (unlike_differs own_mark)

every_write : Each WriteOf (0 ∷ 1 ∷ 2 ∷ 4 ∷ 5 ∷ 14 ∷ 6 ∷ 7 ∷ 15 ∷ 8 ∷ [])
unfolding forms inside after some meets well_formed other sheet_with keys_of writing writing_with write_tests key_tests sheet_tests class_tests caption_tests decided outcome answer_number wrong_keys other_class other_keys sheet_key_length key_bytes mcrypton_class same number zeros be all_zero all_below slots key_class edition_byte last_write rule1 edition_of sheet_size mark_at field_at slot_count mark field blank_slot fit_slot fit_in
every_write =
    and (record { keys = keys_of 8; sheet = sheet_with 0; slot = 0; caption = []; answers = refl })
    (and (record { keys = keys_of 7; sheet = []; slot = 0; caption = []; answers = refl })
    (and (record { keys = pair (zeros 8) (zeros 8); sheet = []; slot = 0; caption = []; answers = refl })
    (and (record { keys = keys_of 8; sheet = []; slot = 0; caption = []; answers = refl })
    (and (record { keys = keys_of 12; sheet = sheet_with 0; slot = 0; caption = []; answers = refl })
    (and (record { keys = keys_of 8; sheet = keyed_with other; slot = 0; caption = []; answers = other_write other (unlike_differs own_mark) })
    (and (record { keys = keys_of 8; sheet = sheet_with 0; slot = 1; caption = []; answers = refl })
    (and (record { keys = keys_of 8; sheet = sheet_with 0; slot = 0; caption = zeros 193; answers = refl })
    (and (record { keys = keys_of 8; sheet = sheet_with 0; slot = 0; caption = 0xC3 ∷ []; answers = refl })
    (and (record { keys = keys_of 8; sheet = sheet_with 4294967295; slot = 0; caption = []; answers = refl })
    none)))))))))

every_clear : Each ClearOf (0 ∷ 4 ∷ 6 ∷ [])
unfolding sheet_with clearing clearing_with clear_tests decided outcome answer_number number zeros be all_zero all_below slots key_class edition_byte last_write rule1 mcrypton_class edition_of sheet_size mark_at field_at slot_count mark field blank_slot fit_slot fit_in
every_clear =
    and (record { sheet = sheet_with 0; slot = 0; answers = refl })
    (and (record { sheet = []; slot = 0; answers = refl })
    (and (record { sheet = sheet_with 0; slot = 1; answers = refl })
    none))

every_read : Each ReadOf (1 ∷ 2 ∷ 3 ∷ 4 ∷ 5 ∷ 14 ∷ 6 ∷ 9 ∷ [])
unfolding other sheet_with keys_of reading reading_with read_tests open_tests window_tests key_tests sheet_tests class_tests decided outcome answer_number wrong_keys other_class other_keys sheet_key_length key_bytes same number zeros be all_zero all_below slots key_class edition_byte last_write rule1 mcrypton_class edition_of sheet_size mark_at field_at slot_count mark field blank_slot fit_slot fit_in
every_read =
    and (record { keys = keys_of 7; sheet = []; slot = 0; window = []; answers = refl })
    (and (record { keys = pair (zeros 8) (zeros 8); sheet = []; slot = 0; window = []; answers = refl })
    (and (record { keys = keys_of 8; sheet = []; slot = 0; window = zeros 191; answers = refl })
    (and (record { keys = keys_of 8; sheet = []; slot = 0; window = zeros 192; answers = refl })
    (and (record { keys = keys_of 12; sheet = sheet_with 0; slot = 0; window = zeros 192; answers = refl })
    (and (record { keys = keys_of 8; sheet = keyed_with other; slot = 0; window = zeros 192; answers = other_reads })
    (and (record { keys = keys_of 8; sheet = sheet_with 0; slot = 1; window = zeros 192; answers = refl })
    (and (record { keys = keys_of 8; sheet = sheet_with 0; slot = 0; window = zeros 192; answers = refl })
    none)))))))

every_blank : Each BlankOf (0 ∷ 1 ∷ 2 ∷ 3 ∷ 5 ∷ [])
unfolding keys_of blanking blanking_with blank_tests decided outcome answer_number wrong_keys sheet_key_length key_bytes same class_known mcrypton_class present_class slot_count sheet_size zeros
every_blank =
    and (record { keys = keys_of 8; sheet = zeros 224; count = 1; class = 4; serial = 1; answers = refl })
    (and (record { keys = keys_of 8; sheet = zeros 224; count = 1; class = 5; serial = 1; answers = refl })
    (and (record { keys = pair (zeros 8) (zeros 8); sheet = zeros 224; count = 1; class = 4; serial = 1; answers = refl })
    (and (record { keys = keys_of 8; sheet = zeros 216; count = 1; class = 4; serial = 1; answers = refl })
    (and (record { keys = keys_of 8; sheet = zeros 224; count = 1; class = 6; serial = 1; answers = refl })
    none))))

pub sheet_refusals : SheetRefusals
sheet_refusals =
    record {
      write = write_exactly;
      clear = clear_exactly;
      read = read_exactly;
      blank = blank_exactly;
      refused_write = write_refused;
      refused_clear = clear_refused;
      refused_read = read_refused;
      refused_blank = blank_refused;
      accepted_blank = blank_accepted;
      accepted_read = read_length;
      accepted_write = write_length;
      accepted_clear = clear_length;
      writes = every_write;
      clears = every_clear;
      reads = every_read;
      blanks = every_blank;
    }
