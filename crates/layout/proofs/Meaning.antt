-- The tests of the layout mean its rules.
use Prim.Native.Nat.{ℕ, ◌*◌, ◌≤◌, ◌<◌}
use mathlib.Core.Path.{◌≡◌, refl, sym, ap, ◌∙◌}
use mathlib.Core.Bool.{Bool, true, false, ◌&&◌, ◌||◌, false≢true}
use mathlib.Core.List.{List, [], ◌∷◌}
use mathlib.Core.Logic.{◌⊎◌, ⊎_elim, inl, inr}
use native.Mathlib.Omega.{arith}
use lib.Dec.{eqb}
use lib.ListN.{length}
use borrow.Author.Tests.{eqb-true, eqb-false, eq-eqb, ne_eqb}
use Rattle.octets.specs.Bytes.{if◌then◌otherwise◌, zeros, part, all_zero}
use Rattle.octets.specs.Clauses.{OneOf}
use Rattle.octets.proofs.Bool.{and_left, and_right, and_both}
use Rattle.octets.proofs.Clauses.{Reflects, reflects_yes, reflects_or, reflects_as, reflects_eqb, reflects_three}
use Rattle.octets.proofs.Parts.{length_part}
use Rattle.octets.proofs.Zeros.{all_zero_zeros, all_zero_is}
use Rattle.cipher.specs.Key.{mcrypton_class, present_class, class_known, key_bytes}
use Rattle.layout.specs.Layout.{Edition, edition1, edition2, edition3, rule1, rule2, rule3, edition_of, edition_byte, key_class, slots, last_write, sheet_size, mark, field, written_mark, blank_slot, fit_slot, fit_in, fit}
use Rattle.layout.specs.Rules.{Words, Classes, KeyFits, IsBlank, IsWritten, Edition1, Edition2, Edition3, MeetsLayout, one, two, three}
use Rattle.layout.specs.Rules as Said
use Rattle.layout.proofs.Header.{count_low, count_high, count_within, edition_cases, edition_one, edition_two, edition_three}
use Rattle.layout.proofs.Fits.{Rules, fit_rules, rules_fit, mark_written, written_mark_lem, length_mark, length_field}

-- ---- t

pub reflects_words : (t : ℕ) → Reflects (mcrypton_class t) (Words t)
unfolding mcrypton_class
reflects_words t = reflects_three t 4 6 8

reflects_present : (t : ℕ) → Reflects (present_class t) (OneOf (21 ∷ 24 ∷ []) t)
unfolding present_class OneOf
reflects_present t = reflects_or (reflects_eqb t 21) (reflects_eqb t 24)

pub all_classes : (t : ℕ) → Words t ⊎ OneOf (21 ∷ 24 ∷ []) t → Classes t
unfolding OneOf
all_classes t (inl (inl a)) = inl a
all_classes t (inl (inr (inl a))) = inr (inl a)
all_classes t (inl (inr (inr a))) = inr (inr (inl a))
all_classes t (inr a) = inr (inr (inr a))

by_cipher : (t : ℕ) → Classes t → Words t ⊎ OneOf (21 ∷ 24 ∷ []) t
unfolding OneOf
by_cipher t (inl a) = inl (inl a)
by_cipher t (inr (inl a)) = inl (inr (inl a))
by_cipher t (inr (inr (inl a))) = inl (inr (inr a))
by_cipher t (inr (inr (inr a))) = inr a

pub reflects_classes : (t : ℕ) → Reflects (class_known t) (Classes t)
unfolding class_known
reflects_classes t = reflects_as (all_classes t) (by_cipher t) (reflects_or (reflects_words t) (reflects_present t))

-- key bytes that fit a class
pub reflects_fits : (n t : ℕ) → Reflects (eqb n (key_bytes t)) (KeyFits n t)
unfolding key_bytes
reflects_fits n t = reflects_as fits size (reflects_eqb n (key_bytes t))
  where
    fits : n ≡ key_bytes t → KeyFits n t
    fits e = (λ h. e ∙ ap key_bytes h, λ h. e ∙ ap key_bytes h, λ a b. e ∙ rw (ne_eqb t 21 a, ne_eqb t 24 b))

    size : KeyFits n t → n ≡ key_bytes t
    size f = go (eqb t 21) (eqb t 24) refl refl
      where
        go : (x y : Bool) → eqb t 21 ≡ x → eqb t 24 ≡ y → n ≡ (if x then 10 otherwise if y then 16 otherwise 2 * t)
        go true y p q = f.0 (eqb-true t 21 p)
        go false true p q = f.1 (eqb-true t 24 q)
        go false false p q = f.2 (eqb-false t 21 p) (eqb-false t 24 q)

-- byte 2 where byte 3 is v: under an unknown edition it is 4, 6 or 8
abbrev pub ClassUnder : ℕ → ℕ → Type 0
ClassUnder v t = Words t ⊎ ((v ≡ 3) × OneOf (21 ∷ 24 ∷ []) t)

module _ (s : List ℕ) where
  words_alone : (t : ℕ) → (edition_byte s ≡ 3 → ⊥) → Reflects (mcrypton_class t) (ClassUnder (edition_byte s) t)
  words_alone t g = reflects_as inl (⊎_elim (λ w. w) (λ h. absurd (g h.0))) (reflects_words t)

  with_present : (t : ℕ) → edition_byte s ≡ 3 → Reflects (class_known t) (ClassUnder (edition_byte s) t)
  unfolding class_known
  with_present t g = reflects_or (reflects_words t) (reflects_as (λ h. (g, h)) (λ h. h.1) (reflects_present t))

  pub reflects_class : (t : ℕ) → Reflects ((edition_of s).classes t) (ClassUnder (edition_byte s) t)
  reflects_class t =
      edition_cases (λ d. Reflects (d.classes t) (ClassUnder (edition_byte s) t)) s
      (λ f g. words_alone t g) (λ g. words_alone t (λ h. omega (arith, g, h))) (with_present t)

-- ---- a slot

is_zeros : (s : List ℕ) (n : ℕ) → length s ≡ n → all_zero s ≡ true → s ≡ zeros n
is_zeros s n l h = all_zero_is s h ∙ ap zeros l

zeros_all : (s : List ℕ) (n : ℕ) → s ≡ zeros n → all_zero s ≡ true
zeros_all s n h = ap all_zero h ∙ all_zero_zeros n

module _ (e : Edition) (s : List ℕ) (r : Rules e s) (i : ℕ) (l : i < slots s) where
  pub reflects_blank : Reflects (blank_slot e s i) (IsBlank e s i)
  unfolding blank_slot
  reflects_blank =
      record {
        holds = λ h. record {
          mark_zero = is_zeros (mark e s i) 16 (length_mark e s r i l) (and_left (all_zero (mark e s i)) (all_zero (field e s i)) h);
          field_zero = is_zeros (field e s i) 192 (length_field e s r i l) (and_right (all_zero (mark e s i)) (all_zero (field e s i)) h);
        };
        fails = λ h b. false≢true (sym h ∙ blank b);
      }
    where
      blank : IsBlank e s i → all_zero (mark e s i) && all_zero (field e s i) ≡ true
      blank b = and_both (all_zero (mark e s i)) (all_zero (field e s i)) (zeros_all _ 16 b.mark_zero) (zeros_all _ 192 b.field_zero)

  is_written : written_mark (last_write s) (mark e s i) ≡ true → IsWritten e s i
  is_written h =
      let w = mark_written (last_write s) (mark e s i) h in
      record {
        number_from_1 = w.positive;
        number_to_w = w.at_most;
        length_to_192 = w.short;
        two_zeros = is_zeros (part (mark e s i) 6 2) 2 (length_part (mark e s i) 6 2 (omega (arith, length_mark e s r i l))) w.pad;
      }

-- the test of a slot, without the rest of the sheet
slot_fits_lem : (e : Edition) (s : List ℕ) (i : ℕ) → IsBlank e s i ⊎ IsWritten e s i → fit_slot e s i ≡ true
unfolding fit_slot blank_slot
slot_fits_lem e s i (inl b) = rw (zeros_all (mark e s i) 16 b.mark_zero, zeros_all (field e s i) 192 b.field_zero)
slot_fits_lem e s i (inr w) =
    last (all_zero (mark e s i) && all_zero (field e s i)) (written_mark (last_write s) (mark e s i))
    (written_mark_lem (last_write s) (mark e s i)
    (record { positive = w.number_from_1; at_most = w.number_to_w; short = w.length_to_192; pad = zeros_all (part (mark e s i) 6 2) 2 w.two_zeros }))
  where
    last : (a b : Bool) → b ≡ true → a || b ≡ true
    last true b h = refl
    last false b h = h

-- ---- the sheet

slot_said : (e : Edition) (s : List ℕ) (r : Rules e s) (i : ℕ) → i < slots s → IsBlank e s i ⊎ IsWritten e s i
slot_said e s r i l = go (blank_slot e s i) refl (unfold fit_slot in r.slot i l)
  where
    go : (b : Bool) → blank_slot e s i ≡ b → b || written_mark (last_write s) (mark e s i) ≡ true → IsBlank e s i ⊎ IsWritten e s i
    go true q h = inl ((reflects_blank e s r i l).holds q)
    go false q h = inr (is_written e s r i l h)

said_rules : (e : Edition) (s : List ℕ) → Rules e s → Said.Rules e s
unfolding sheet_size
said_rules e s r =
    record {
      eight_bytes = r.long;
      slots_from_1 = count_low (slots s) r.count;
      slots_to_256 = count_high (slots s) r.count;
      size = r.size;
      slot = slot_said e s r;
    }

rules_said : (e : Edition) (s : List ℕ) → e.rule s ≡ true → Said.Rules e s → Rules e s
unfolding sheet_size
rules_said e s h r =
    record {
      long = r.eight_bytes;
      count = count_within (slots s) r.slots_from_1 r.slots_to_256;
      rule = h;
      size = r.size;
      slot = λ i l. slot_fits_lem e s i (r.slot i l);
    }

-- ---- the header's rule of each edition

rule_one : (s : List ℕ) → rule1 s ≡ true → Edition1 s
unfolding rule1
rule_one s h =
    record {
      words = (reflects_words (key_class s)).holds (and_left (mcrypton_class (key_class s)) (eqb (edition_byte s) 1) h);
      edition = eqb-true (edition_byte s) 1 (and_right (mcrypton_class (key_class s)) (eqb (edition_byte s) 1) h);
    }

one_rule : (s : List ℕ) → Edition1 s → rule1 s ≡ true
unfolding rule1
one_rule s m = and_both (mcrypton_class (key_class s)) (eqb (edition_byte s) 1) (reflects_yes (reflects_words (key_class s)) m.words) (eq-eqb (edition_byte s) 1 m.edition)

rule_two : (s : List ℕ) → 16 ≤ length s → rule2 s ≡ true → Edition2 s
unfolding rule2
rule_two s l h =
    let rest = and_right (mcrypton_class (key_class s)) _ h in
    record {
      words = (reflects_words (key_class s)).holds (and_left (mcrypton_class (key_class s)) _ h);
      edition = eqb-true (edition_byte s) 2 (and_left (eqb (edition_byte s) 2) _ rest);
      six_zeros = is_zeros (part s 10 6) 6 (length_part s 10 6 (omega arith)) (and_right (eqb (edition_byte s) 2) _ rest);
    }

two_rule : (s : List ℕ) → Edition2 s → rule2 s ≡ true
unfolding rule2
two_rule s m =
    and_both (mcrypton_class (key_class s)) _ (reflects_yes (reflects_words (key_class s)) m.words)
    (and_both (eqb (edition_byte s) 2) _ (eq-eqb (edition_byte s) 2 m.edition) (zeros_all (part s 10 6) 6 m.six_zeros))

rule_three : (s : List ℕ) → rule3 s ≡ true → Edition3 s
unfolding rule3
rule_three s h =
    record {
      class = (reflects_classes (key_class s)).holds (and_left (class_known (key_class s)) (eqb (edition_byte s) 3) h);
      edition = eqb-true (edition_byte s) 3 (and_right (class_known (key_class s)) (eqb (edition_byte s) 3) h);
    }

three_rule : (s : List ℕ) → Edition3 s → rule3 s ≡ true
unfolding rule3
three_rule s m = and_both (class_known (key_class s)) (eqb (edition_byte s) 3) (reflects_yes (reflects_classes (key_class s)) m.class) (eq-eqb (edition_byte s) 3 m.edition)

-- a sheet is fit exactly if it meets the layout
fit_meets : (s : List ℕ) → fit s ≡ true → MeetsLayout s
unfolding fit sheet_size
fit_meets s =
    edition_cases (λ e. fit_in e s ≡ true → MeetsLayout s) s
    (λ f g h. let r = fit_rules edition1 s h in one (said_rules edition1 s r) (rule_one s r.rule))
    (λ g h. let r = fit_rules edition2 s h in two (said_rules edition2 s r) (rule_two s (omega (arith, r.size)) r.rule))
    (λ g h. let r = fit_rules edition3 s h in three (said_rules edition3 s r) (rule_three s r.rule))

meets_fit : (s : List ℕ) → MeetsLayout s → fit s ≡ true
unfolding fit
meets_fit s (one r m) =
    rw (edition_one s (λ g. absurd (omega (arith, g, m.edition))) (λ g. absurd (omega (arith, g, m.edition)))) (rules_fit edition1 s (rules_said edition1 s (one_rule s m) r))
meets_fit s (two r m) = rw (edition_two s m.edition) (rules_fit edition2 s (rules_said edition2 s (two_rule s m) r))
meets_fit s (three r m) = rw (edition_three s m.edition) (rules_fit edition3 s (rules_said edition3 s (three_rule s m) r))

pub reflects_fit : (s : List ℕ) → Reflects (fit s) (MeetsLayout s)
reflects_fit s = record { holds = fit_meets s; fails = λ h m. false≢true (sym h ∙ meets_fit s m) }

pub meets_few : {s : List ℕ} → MeetsLayout s → slots s ≤ 256
meets_few (one r m) = r.slots_to_256
meets_few (two r m) = r.slots_to_256
meets_few (three r m) = r.slots_to_256
