-- What it means that a sheet meets the layout, and what follows for its slots.
use mathlib.Core.Path.{◌≡◌, refl, sym, ◌∙◌}
use mathlib.Core.Bool.{Bool, true, false, ◌&&◌}
use mathlib.Core.List.{List}
use Prim.Native.Nat.{ℕ, ◌+◌, ◌≤◌, ◌<◌}
use native.Mathlib.Omega.{arith}
use borrow.Author.Tests.{eq-eqb, leb-true, le-leb, lt-leb, eqb-true}
use lib.Dec.{eqb, leb}
use lib.ListN.{length}
use Rattle.octets.specs.Bytes.{part, all_zero, all_below}
use Rattle.octets.proofs.Bool.{and_left, and_right, and_both}
use Rattle.octets.proofs.Compare.{all_below_true, all_below_at}
use Rattle.octets.proofs.Parts.{length_part}
use Rattle.cipher.specs.Key.{class_known}
use Rattle.cipher.proofs.Promise.{class_small}
use Rattle.layout.specs.declared.Shape.{Shape}
use Rattle.layout.specs.Layout.{Edition, slots, key_class, last_write, edition_of, mark_number, mark_length, written_mark, sheet_size, mark_at, field_at, slot_count, mark, field, blank_slot, fit_slot, fit_in, fit}
use Rattle.layout.specs.Shape.{shape_of, SheetOf, SlotIn, FitSlot}
use Rattle.layout.proofs.Header.{rule_class, count_low, count_high, header_small}
use Rattle.layout.proofs.Slots.{slot_of}

-- ---- the test's parts

pub record Rules (e : Edition) (s : List ℕ) : Type 0 where
  pub long : 8 ≤ length s
  pub count : slot_count (slots s) ≡ true
  pub rule : e.rule s ≡ true
  pub size : length s ≡ sheet_size e.header (slots s)
  pub slot : (i : ℕ) → i < slots s → fit_slot e s i ≡ true

abbrev pub Fits : List ℕ → Type 0
Fits s = Rules (edition_of s) s

module _ (e : Edition) (s : List ℕ) where
  pub fit_rules : fit_in e s ≡ true → Rules e s
  unfolding fit_in
  fit_rules t =
      let n = slots s in
      let t₁ = and_right (leb 8 (length s)) _ t in
      let t₂ = and_right (slot_count n) _ t₁ in
      let t₃ = and_right (e.rule s) _ t₂ in
      record {
        long = leb-true 8 (length s) (and_left (leb 8 (length s)) _ t);
        count = and_left (slot_count n) _ t₁;
        rule = and_left (e.rule s) _ t₂;
        size = eqb-true (length s) (sheet_size e.header n) (and_left (eqb (length s) (sheet_size e.header n)) _ t₃);
        slot = λ i l. all_below_at (fit_slot e s) n i (and_right (eqb (length s) (sheet_size e.header n)) _ t₃) l;
      }

  pub rules_fit : Rules e s → fit_in e s ≡ true
  unfolding fit_in
  rules_fit f =
      and_both (leb 8 (length s)) _ (le-leb 8 (length s) f.long)
      (and_both (slot_count (slots s)) _ f.count
      (and_both (e.rule s) _ f.rule
      (and_both (eqb (length s) (sheet_size e.header (slots s))) _ (eq-eqb (length s) (sheet_size e.header (slots s)) f.size)
      (all_below_true (fit_slot e s) (slots s) f.slot))))

pub fit_facts : (s : List ℕ) → fit s ≡ true → Fits s
unfolding fit
fit_facts s = fit_rules (edition_of s) s

pub fits_fit : (s : List ℕ) → Fits s → fit s ≡ true
unfolding fit
fits_fit s = rules_fit (edition_of s) s

-- ---- the ways out of the test

and_middle : (a b c d : Bool) → a && (b && (c && d)) ≡ (a && c) && (b && d)
and_middle false b c d = refl
and_middle true true c d = refl
and_middle true false false d = refl
and_middle true false true d = refl

module _ (s : List ℕ) where
  pub fit_short : length s < 8 → false ≡ fit s
  unfolding fit fit_in
  fit_short h = rw (lt-leb 8 (length s) h)

  -- r is what was found of the size
  module _ (l : 8 ≤ length s) (r : Bool) (e : r ≡ slot_count (slots s) && eqb (length s) (sheet_size (edition_of s).header (slots s))) where
    past_size : fit s ≡ (r && ((edition_of s).rule s && all_below (slots s) (fit_slot (edition_of s) s)))
    unfolding fit fit_in
    past_size = rw (le-leb 8 (length s) l, e) (and_middle (slot_count (slots s)) ((edition_of s).rule s) (eqb (length s) (sheet_size (edition_of s).header (slots s))) _)

    pub fit_size : r ≡ false → false ≡ fit s
    fit_size t = sym (past_size ∙ rw t)

    module _ (t : r ≡ true) where
      size_is : length s ≡ sheet_size (edition_of s).header (slots s)
      size_is = eqb-true _ _ (and_right (slot_count (slots s)) _ (sym e ∙ t))

      pub header_inside : (edition_of s).header ≤ length s
      unfolding sheet_size
      header_inside = omega (arith, size_is)

      -- q is what was found of the header
      module _ (q : Bool) (f : q ≡ (edition_of s).rule s) where
        pub fit_rule : q ≡ false → false ≡ fit s
        fit_rule u = sym (past_size ∙ rw (t, ← f, u))

        pub fit_slots : q ≡ true → (b : Bool) → b ≡ all_below (slots s) (fit_slot (edition_of s) s) → b ≡ fit s
        fit_slots u b g = g ∙ sym (past_size ∙ rw (t, ← f, u))

      pub sheet_of : (h : Shape) → h ≡ shape_of s → SheetOf s h
      unfolding shape_of
      sheet_of h q = rw q (record { shape = refl; size = size_is; small = (header_small s, count_high (slots s) (and_left (slot_count (slots s)) _ (sym e ∙ t))) })

-- ---- what follows for slots and fields

-- a written mark
pub record Written (w : ℕ) (m : List ℕ) : Type 0 where
  pub positive : 1 ≤ mark_number m
  pub at_most : mark_number m ≤ w
  pub short : mark_length m ≤ 192
  pub pad : all_zero (part m 6 2) ≡ true

pub mark_written : (w : ℕ) (m : List ℕ) → written_mark w m ≡ true → Written w m
unfolding written_mark
mark_written w m t =
    let t₁ = and_right (leb 1 (mark_number m)) _ t in
    let t₂ = and_right (leb (mark_number m) w) _ t₁ in
    record {
      positive = leb-true 1 (mark_number m) (and_left (leb 1 (mark_number m)) _ t);
      at_most = leb-true (mark_number m) w (and_left (leb (mark_number m) w) _ t₁);
      short = leb-true (mark_length m) 192 (and_left (leb (mark_length m) 192) _ t₂);
      pad = and_right (leb (mark_length m) 192) _ t₂;
    }

pub written_mark_lem : (w : ℕ) (m : List ℕ) → Written w m → written_mark w m ≡ true
unfolding written_mark
written_mark_lem w m f =
    and_both (leb 1 (mark_number m)) _ (le-leb 1 (mark_number m) f.positive)
    (and_both (leb (mark_number m) w) _ (le-leb (mark_number m) w f.at_most)
    (and_both (leb (mark_length m) 192) _ (le-leb (mark_length m) 192 f.short) f.pad))

pub written_length : (w : ℕ) (m : List ℕ) → written_mark w m ≡ true → mark_length m ≤ 192
written_length w m t = (mark_written w m t).short

module _ (e : Edition) (s : List ℕ) (f : Rules e s) where
  pub fits_some : 1 ≤ slots s
  fits_some = count_low (slots s) f.count

  pub fits_few : slots s ≤ 256
  fits_few = count_high (slots s) f.count

  module _ (i : ℕ) (l : i < slots s) where
    pub mark_end : mark_at e.header i + 16 ≤ field_at e.header (slots s) 0
    unfolding mark_at field_at
    mark_end = omega arith

    pub field_end : field_at e.header (slots s) i + 192 ≤ length s
    unfolding field_at sheet_size
    field_end = omega (arith, f.size)

    pub length_mark : length (mark e s i) ≡ 16
    unfolding mark field_at
    length_mark = length_part s (mark_at e.header i) 16 (omega (arith, mark_end, field_end))

    pub length_field : length (field e s i) ≡ 192
    unfolding field
    length_field = length_part s (field_at e.header (slots s) i) 192 field_end

    -- a slot that is not blank is written
    pub not_blank_written : blank_slot e s i ≡ false → written_mark (last_write s) (mark e s i) ≡ true
    unfolding fit_slot
    not_blank_written b = rw b at (f.slot i l)

module _ (s : List ℕ) where
  pub fits_sheet : Fits s → SheetOf s (shape_of s)
  unfolding shape_of
  fits_sheet f = record { shape = refl; size = f.size; small = (header_small s, fits_few (edition_of s) s f) }

  pub fits_slot : Fits s → (i : ℕ) → i < slots s → SlotIn s (shape_of s) i
  unfolding shape_of
  fits_slot f i l = slot_of s (shape_of s) (fits_sheet f) i l

  -- the same of what code has found: r of the sheet, h as its shape
  pub slot_in : (r : Bool) → r ≡ fit s → r ≡ true → (h : Shape) → h ≡ shape_of s → (i : ℕ) → i < h.slots → SlotIn s h i
  slot_in r e t h q i l = slot_of s h (rw q (fits_sheet (fit_facts s (sym e ∙ t)))) i l

  pub fits_class : Fits s → class_known (key_class s) ≡ true
  fits_class f = rule_class s f.rule

  pub fits_header : Fits s → (edition_of s).header ≤ length s
  unfolding sheet_size
  fits_header f = omega (arith, f.size)

  pub fits_class_small : Fits s → key_class s < 256
  fits_class_small f = class_small (key_class s) (fits_class f)

-- ---- a slot of a sheet that meets the layout

module _ (s : List ℕ) (i : ℕ) (p : FitSlot s i) where
  pub slot_long : 8 ≤ length s
  slot_long = (fit_facts s p.fits).long

  pub slot_header : (edition_of s).header ≤ length s
  slot_header = fits_header s (fit_facts s p.fits)

  pub slot_placed : (h : Shape) → h ≡ shape_of s → SlotIn s h i
  slot_placed h q = rw q (fits_slot s (fit_facts s p.fits) i p.below)
