-- What is proved of the first fault.
use Prim.Native.Nat.{ℕ}
use mathlib.Core.Path.{◌≡◌, refl}
use mathlib.Core.List.{List}
use mathlib.Core.Logic.{◌⊎◌, ⊎_elim, inl, inr}
use native.Mathlib.Omega.{arith}
use Rattle.octets.specs.Bytes.{zeros, number as number_of, all_zero}
use Rattle.octets.specs.Outcome.{decided}
use Rattle.cipher.specs.Key.{mcrypton_class, present_class, class_known}
use Rattle.layout.specs.Layout.{edition_of, slots, key_class, edition_byte, last_write, slot_count, sheet_size, mark_at, field_at, mark_number, mark_length, mark, field, blank_slot}
use Rattle.octets.specs.Clauses.{OneOf}
use Rattle.faults.specs.Faults.{zeros_before, first_set, edition_known, wrong_number, slot_faults, faults, first_in, first_fault, header_point, mark_point, fault_point, first_point}
use Rattle.faults.specs.First.{order, short, count, class, edition, header_byte, size, number, caption, mark_byte, Suffices, FaultCases, FirstFault}
use Rattle.octets.proofs.Clauses.{reflects_yes, reflects_no}
use Rattle.layout.proofs.Meaning.{ClassUnder, reflects_fit}
use Rattle.faults.proofs.First.{fit_none, none_fit, unfit_some, is_broken, not_none, lowest_first, only_first}

fault_cases : FaultCases
unfolding first_point fault_point header_point mark_point first_fault first_in faults slot_faults wrong_number edition_known first_set zeros_before decided slots key_class edition_byte last_write slot_count sheet_size mark_at field_at mark_number mark_length mark field blank_slot edition_of mcrypton_class present_class class_known number_of all_zero zeros
fault_cases =
    record {
      fit = refl;
      seven_bytes = refl;
      no_slots = refl;
      no_class = refl;
      no_edition = refl;
      present_in_1 = refl;
      present_in_2 = refl;
      present_in_4 = refl;
      present_in_3 = (refl, refl);
      byte_11 = refl;
      eight_bytes = refl;
      eleven_bytes = refl;
      key_mark_byte = refl;
      zero_mark = refl;
      above_w = refl;
      length_193 = refl;
      byte_7 = refl;
      number_and_length = refl;
      bytes_6_and_7 = refl;
      bytes_10_and_12 = refl;
      class_and_byte = refl;
      length_and_slot = refl;
      lowest_slot = refl;
    }

no_class : (v t : ℕ) → ClassUnder v t → (t ≡ 4 → ⊥) → (t ≡ 6 → ⊥) → (t ≡ 8 → ⊥) → (v ≡ 3 → (t ≡ 21) ⊎ (t ≡ 24) → ⊥) → ⊥
unfolding OneOf
no_class v t (inl (inl h)) a b c d = a h
no_class v t (inl (inr (inl h))) a b c d = b h
no_class v t (inl (inr (inr h))) a b c d = c h
no_class v t (inr h) a b c d = d h.0 h.1

suffices : (s : List ℕ) → Suffices s
suffices s =
    record {
      short_by = short;
      count_by = λ h. count (λ b. ⊎_elim (λ e. omega (arith, e, b.0)) (λ l. omega (arith, l, b.1)) h);
      class_by = λ a b c d. class (λ w. no_class (edition_byte s) (key_class s) w a b c d);
      edition_by = λ a b c. edition (λ h. ⊎_elim a (⊎_elim b c) h);
      header_byte_by = λ j e l h d. header_byte j e l (omega arith) d;
      size_by = size;
      number_by = λ i l b h. number i l b (λ r. ⊎_elim (λ e. omega (arith, e, r.0)) (λ g. omega (arith, g, r.1)) h);
      caption_by = caption;
      mark_byte_by = λ i j l h d. mark_byte i j l (⊎_elim (λ e. omega (arith, e)) (λ e. omega (arith, e)) h) (⊎_elim (λ e. omega (arith, e)) (λ e. omega (arith, e)) h) d;
    }

pub first_fault_law : FirstFault
unfolding order
first_fault_law =
    record {
      fits = λ s. (λ m. fit_none s (reflects_yes (reflects_fit s) m), λ e. (reflects_fit s).holds (none_fit s e));
      broken = is_broken;
      some = not_none;
      first = lowest_first;
      only = only_first;
      fault_is = λ s n. unfit_some s (reflects_no (reflects_fit s) n);
      order_is = λ i j. (refl, refl, refl, refl, refl, refl, refl, refl, refl);
      fit_is = λ s. ((reflects_fit s).holds, reflects_yes (reflects_fit s));
      suffices = suffices;
      cases = fault_cases;
    }
