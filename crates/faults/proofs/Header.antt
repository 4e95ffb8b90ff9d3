-- Laws of the header's faults, one for each way out of the search.
use Prim.Native.Nat.{ℕ, ◌≤◌, ◌<◌}
use mathlib.Core.Path.{◌≡◌, refl, sym, ap, ◌∙◌}
use mathlib.Core.Bool.{Bool, true, false, not, ◌&&◌}
use mathlib.Core.List.{List}
use native.Mathlib.Nat.{sub-zero}
use Rattle.std.specs.Prelude.{Option, None, Some}
use borrow.Author.Tests.{lt-ltb, le-ltb}
use lib.Dec.{eqb}
use lib.ListN.{length, get_or}
use Rattle.octets.specs.Bytes.{if◌then◌otherwise◌, number, part, all_zero}
use Rattle.octets.specs.Outcome.{decided}
use Rattle.layout.specs.Layout.{edition_of, slots, key_class, edition_byte, slot_count, sheet_size}
use Rattle.layout.proofs.Header.{edition_read}
use Rattle.faults.specs.Faults.{edition_known, first_set, first_in, faults, first_fault}
use Rattle.faults.specs.Inner.{zero_place, slots_fault, size_fault}
use Rattle.faults.specs.declared.HeaderRule.TheVariants.{Short, Count, Class, Edition, Zero, Length}
use Rattle.faults.specs.declared.Fault.{Fault}
use Rattle.faults.specs.declared.Fault.TheVariants.{Header}

module _ (s : List ℕ) where
  pub fault_short : length s < 8 → Some (Header Short) ≡ first_fault s
  unfolding first_fault first_in faults decided
  fault_short h = rw (lt-ltb (length s) 8 h)

  -- n and v are what was read of bytes 0, 1 and 3; r, k and q what was found of them and of byte 2
  module _ (l : 8 ≤ length s) (n : ℕ) (en : n ≡ number (part s 0 2)) (r : Bool) (er : r ≡ slot_count n) where
    count_is : slot_count (slots s) ≡ r
    unfolding slots
    count_is = ap slot_count (sym en) ∙ sym er

    pub fault_count : r ≡ false → Some (Header Count) ≡ first_fault s
    unfolding first_fault first_in faults decided
    fault_count t = rw (le-ltb (length s) 8 l, count_is, t)

    module _ (tr : r ≡ true) (k : Bool) (ek : k ≡ (edition_of s).classes (key_class s)) where
      pub fault_class : k ≡ false → Some (Header Class) ≡ first_fault s
      unfolding first_fault first_in faults decided
      fault_class t = rw (le-ltb (length s) 8 l, count_is, tr, ← ek, t)

      module _ (tk : k ≡ true) (v : ℕ) (ev : v ≡ get_or s 3 0) (q : Bool) (eq : q ≡ edition_known v) where
        edition_is : edition_known (edition_byte s) ≡ q
        edition_is = ap edition_known (sym (edition_read s v l ev)) ∙ sym eq

        pub fault_edition : q ≡ false → Some (Header Edition) ≡ first_fault s
        unfolding first_fault first_in faults decided
        fault_edition t = rw (le-ltb (length s) 8 l, count_is, tr, ← ek, tk, edition_is, t)

        -- z is what was found of the zero bytes
        module _ (tq : q ≡ true) (z : Option ℕ) (ez : z ≡ zero_place s) where
          pub fault_zero : (j : ℕ) → z ≡ Some j → Some (Header (Zero j)) ≡ first_fault s
          unfolding first_fault first_in faults decided zero_place
          fault_zero j h =
              rw (le-ltb (length s) 8 l, count_is, tr, ← ek, tk, edition_is, tq)
              (go (eqb (edition_byte s) 2 && not (all_zero (part s 10 6))) (sym h ∙ ez) _)
            where
              go : (b : Bool) → Some j ≡ (if b then Some (first_set s 10 6) otherwise None) → (rest : Option Fault)
                  → Some (Header (Zero j)) ≡ (if b then Some (Header (Zero (first_set s 10 6))) otherwise rest)
              go true e rest = cc
              go false e rest = cc

          pub fault_rest : z ≡ None → (x : Option Fault) → x ≡ size_fault s → x ≡ first_fault s
          unfolding first_fault first_in faults decided zero_place size_fault slots_fault
          fault_rest g x e =
              e
              ∙ rw (le-ltb (length s) 8 l, count_is, tr, ← ek, tk, edition_is, tq, none (eqb (edition_byte s) 2 && not (all_zero (part s 10 6))) (sym g ∙ ez), sub-zero)
              (go (eqb (length s) (sheet_size (edition_of s).header (slots s))) _ _)
            where
              none : (b : Bool) → None ≡ (if b then Some (first_set s 10 6) otherwise None) → b ≡ false
              none false q = refl
              none true q = cc

              go : (b : Bool) (y n : Option Fault) → (if b then y otherwise n) ≡ (if not b then n otherwise y)
              go true y n = refl
              go false y n = refl

-- ---- the length: r is what was found of it

module _ (s : List ℕ) (r : Bool) (e : r ≡ slot_count (slots s) && eqb (length s) (sheet_size (edition_of s).header (slots s))) where
  pub size_wrong : r ≡ false → Some (Header Length) ≡ size_fault s
  unfolding size_fault
  size_wrong t = rw (← e, t)

  pub size_right : r ≡ true → (x : Option Fault) → x ≡ slots_fault s 0 → x ≡ size_fault s
  unfolding size_fault
  size_right t x f = f ∙ rw (← e, t)
