-- The places.
use Prim.Native.Nat.{ℕ, ◌+◌, ◌*◌, ◌≤◌, ◌<◌}
use mathlib.Core.Path.{◌≡◌, refl, sym, subst}
use mathlib.Core.List.{List, [], ◌∷◌}
use mathlib.Core.Logic.{◌⊎◌, ⊎_elim, inl, inr}
use native.Mathlib.Nat.{div-one}
use native.Mathlib.Omega.{arith}
use lib.ListN.{length, get_or}
use Rattle.octets.specs.Bytes.{number, part, be, zeros}
use Rattle.octets.specs.Clauses.{OneOf}
use Rattle.octets.proofs.Parts.{tab_part}
use Rattle.octets.proofs.Numbers.{number_two, number_four}
use Rattle.octets.proofs.Clauses.{reflects_yes}
use Rattle.octets.proofs.Plain.{plain}
use Rattle.layout.specs.Layout.{Edition, edition_of, slots, key_class, edition_byte, last_write, serial, stored_mark, sheet_size, mark_number, mark_length, mark_check, mark_at, field_at, mark, field, first_eight, serial_header, blank_header}
use Rattle.layout.specs.Rules.{Words, IsBlank, IsWritten, Rules, MeetsLayout, one, two, three}
use Rattle.layout.specs.Places.{FirstEight, NextEight, InMark, Places}
use Rattle.layout.proofs.Header.{edition_one, edition_two, edition_three}
use Rattle.layout.proofs.Meaning.{all_classes, ClassUnder, reflects_class}

-- a number of one byte
number_one : (s : List ℕ) (a : ℕ) → a + 1 ≤ length s → number (part s a 1) ≡ get_or s a 0
unfolding number
number_one s a h = rw (← tab_part 1 a s h) (omega arith)

first_eight_lem : (s : List ℕ) → 8 ≤ length s → FirstEight s
unfolding slots key_class edition_byte last_write
first_eight_lem s h =
    record { n = number_two s 0 (omega arith); t = number_one s 2 (omega arith); edition = number_one s 3 (omega arith); w = number_four s 4 (omega arith) }

next_eight : (s : List ℕ) → 16 ≤ length s → NextEight s
unfolding serial stored_mark
next_eight s h = record { serial_is = number_two s 8 (omega arith); key_mark_lem = sym (tab_part 6 10 s (omega arith)) }

in_mark : (m : List ℕ) → length m ≡ 16 → InMark m
unfolding mark_number mark_length mark_check
in_mark m h = record { number = number_four m 0 (omega arith); caption = number_two m 4 (omega arith); check = sym (tab_part 8 8 m (omega arith)) }

meets : (s : List ℕ) → 8 ≤ length s → 1 ≤ slots s → slots s ≤ 256 → OneOf (1 ∷ 2 ∷ 3 ∷ []) (edition_byte s) → ClassUnder (edition_byte s) (key_class s)
    → (edition_byte s ≡ 2 → part s 10 6 ≡ zeros 6) → length s ≡ (edition_of s).header + 208 * slots s
    → ((i : ℕ) → i < slots s
    → ((mark (edition_of s) s i ≡ zeros 16) × (field (edition_of s) s i ≡ zeros 192))
    ⊎ ((1 ≤ mark_number (mark (edition_of s) s i)) × (mark_number (mark (edition_of s) s i) ≤ last_write s) × (mark_length (mark (edition_of s) s i) ≤ 192)
    × (part (mark (edition_of s) s i) 6 2 ≡ zeros 2)))
    → MeetsLayout s
unfolding OneOf
meets s long from to edition class six size slot = go edition
  where
    fits : (i : ℕ) → ((mark (edition_of s) s i ≡ zeros 16) × (field (edition_of s) s i ≡ zeros 192))
        ⊎ ((1 ≤ mark_number (mark (edition_of s) s i)) × (mark_number (mark (edition_of s) s i) ≤ last_write s) × (mark_length (mark (edition_of s) s i) ≤ 192)
        × (part (mark (edition_of s) s i) 6 2 ≡ zeros 2)) → IsBlank (edition_of s) s i ⊎ IsWritten (edition_of s) s i
    fits i (inl h) = inl (record { mark_zero = h.0; field_zero = h.1 })
    fits i (inr h) = inr (record { number_from_1 = h.0; number_to_w = h.1; length_to_192 = h.2; two_zeros = h.3 })

    rules : Rules (edition_of s) s
    rules = record { eight_bytes = long; slots_from_1 = from; slots_to_256 = to; size = size; slot = λ i l. fits i (slot i l) }

    words : (edition_byte s ≡ 3 → ⊥) → Words (key_class s)
    words no-three = ⊎_elim (λ w. w) (λ h. absurd (no-three h.0)) class

    go : (edition_byte s ≡ 1) ⊎ ((edition_byte s ≡ 2) ⊎ (edition_byte s ≡ 3)) → MeetsLayout s
    go (inl e) =
        one (subst (λ (d : Edition). Rules d s) (edition_one s (λ f. omega (arith, e, f)) (λ f. omega (arith, e, f))) rules) (record { words = words (λ f. omega (arith, e, f)); edition = e })
    go (inr (inl e)) = two (subst (λ (d : Edition). Rules d s) (edition_two s e) rules) (record { words = words (λ f. omega (arith, e, f)); edition = e; six_zeros = six e })
    go (inr (inr e)) = three (subst (λ (d : Edition). Rules d s) (edition_three s e) rules) (record { class = all_classes (key_class s) (⊎_elim inl (λ h. inr h.1) class); edition = e })

pub places : Places
unfolding be sheet_size mark_at field_at mark field first_eight serial_header blank_header
places =
    record {
      first_eight_lem = first_eight_lem;
      next_eight = next_eight;
      in_mark = in_mark;
      header = refl;
      marks = λ s i. refl;
      fields = λ s i. refl;
      tail = λ s. refl;
      header_2 = refl;
      marks_2 = λ s i. refl;
      fields_2 = λ s i. refl;
      tail_2 = λ s. refl;
      header_3 = refl;
      marks_3 = λ s i. refl;
      fields_3 = λ s i. refl;
      tail_3 = λ s. refl;
      keyed = (refl, refl, refl);
      classes = λ s t. ((reflects_class s t).holds, reflects_yes (reflects_class s t));
      chosen_3 = edition_three;
      chosen_2 = edition_two;
      chosen_1 = edition_one;
      meets = meets;
      sizes = (refl, refl, refl, refl);
      new = refl;
      new_header = λ n t x m. rw (div-one n, div-one t, div-one x);
      plain = plain;
    }
