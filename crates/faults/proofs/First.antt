-- The first fault is what its record says.
use Prim.Native.Nat.{ℕ, zero, suc, ◌+◌, ◌-◌, ◌*◌, ◌/◌, ◌%◌, ◌≤◌, ◌<◌}
use mathlib.Core.Path.{◌≡◌, refl, sym, ap, ◌∙◌, subst}
use mathlib.Core.Bool.{Bool, true, false, not, ◌&&◌, ◌||◌, false≢true}
use mathlib.Core.List.{List, ◌∷◌}
use mathlib.Core.Logic.{◌⊎◌}
use native.Mathlib.Omega.{arith}
use native.Mathlib.Decide.{dec_le}
use Rattle.std.specs.Prelude.{Option, None, Some}
use Rattle.std.specs.Option.{unwrap_or}
use borrow.Author.Tests.{eq-eqb, ne_eqb, eqb-true, lt-ltb, le-ltb, ltb-true, ltb-false, not-true, not-false}
use lib.Dec.{eqb, ltb}
use lib.ListN.{length}
use Rattle.octets.specs.Bytes.{if◌then◌otherwise◌, part, all_zero}
use Rattle.octets.specs.Outcome.{Row, ◌gives◌}
use Rattle.octets.proofs.Bool.{and_left, and_right, and_both}
use Rattle.octets.proofs.Clauses.{Reflects, reflects_not, reflects_and, reflects_or, reflects_eqb, reflects_leb, reflects_yes}
use Rattle.cipher.specs.Key.{mcrypton_class, class_known}
use Rattle.layout.specs.Layout.{Edition, edition_of, rule1, rule2, rule3, slots, key_class, edition_byte, last_write, slot_count, sheet_size, mark_number, mark_length, mark, blank_slot, fit_slot, fit}
use Rattle.layout.proofs.Header.{edition_cases}
use Rattle.layout.proofs.Fits.{Fits, fit_facts, fits_fit, length_mark}
use Rattle.layout.proofs.Meaning.{reflects_class}
use Rattle.faults.specs.Faults.{Point, fault_point, header_point, mark_point, first_set, wrong_number, edition_known, slot_faults, faults, first_fault, fault_of}
use Rattle.faults.specs.First.{Breaks, order, short, count, class, edition, header_byte, size, number, caption, mark_byte}
use Rattle.faults.specs.declared.HeaderRule.{HeaderRule}
use Rattle.faults.specs.declared.HeaderRule.TheVariants.{Short, Count, Class, Edition as EditionRule, Zero as HeaderZero, Length as SheetLength}
use Rattle.faults.specs.declared.MarkRule.{MarkRule}
use Rattle.faults.specs.declared.MarkRule.TheVariants.{Number, Length, Zero}
use Rattle.faults.specs.declared.Fault.{Fault}
use Rattle.faults.specs.declared.Fault.TheVariants.{Header, Mark}
use Rattle.faults.proofs.Places.{set_low, set_high, set_below, set_there, set_some, set_least}
use Rattle.faults.proofs.Marks.{wrong_length, wrong_zeros, rows_fit, fit_number, fit_length, fit_zeros}
use Rattle.faults.proofs.Table.{Ordered, end, row, Applies, here, there, Quiet, quiet_none, none_quiet, found, Lowest, lowest}

-- a fault of s, with the numbers that point at it
abbrev Broken : List ℕ → Fault → Type 0
Broken s f = Breaks s f (fault_point f)

-- ---- what each test finds

module _ (s : List ℕ) where
  reflects_count : Reflects (not (slot_count (slots s))) ((1 ≤ slots s) × (slots s ≤ 256) → ⊥)
  unfolding slot_count
  reflects_count = reflects_not (reflects_and (reflects_leb 1 (slots s)) (reflects_leb (slots s) 256))

  reflects_edition : Reflects (not (edition_known (edition_byte s))) ((edition_byte s ≡ 1) ⊎ ((edition_byte s ≡ 2) ⊎ (edition_byte s ≡ 3)) → ⊥)
  unfolding edition_known
  reflects_edition = reflects_not (reflects_or (reflects_eqb (edition_byte s) 1) (reflects_or (reflects_eqb (edition_byte s) 2) (reflects_eqb (edition_byte s) 3)))

  reflects_size : Reflects (not (eqb (length s) (sheet_size (edition_of s).header (slots s)))) (length s ≡ (edition_of s).header + 208 * slots s → ⊥)
  unfolding sheet_size
  reflects_size = reflects_not (reflects_eqb (length s) ((edition_of s).header + 208 * slots s))

  reflects_number : (i : ℕ) → Reflects (wrong_number (edition_of s) s i)
      ((blank_slot (edition_of s) s i ≡ false) × ((1 ≤ mark_number (mark (edition_of s) s i)) × (mark_number (mark (edition_of s) s i) ≤ last_write s) → ⊥))
  unfolding wrong_number
  reflects_number i =
      reflects_and (record { holds = not-true _; fails = λ e h. false≢true (sym h ∙ not-false _ e) })
      (reflects_not (reflects_and (reflects_leb 1 (mark_number (mark (edition_of s) s i))) (reflects_leb (mark_number (mark (edition_of s) s i)) (last_write s))))

  -- a place where the zero bytes aren't
  header_zero : eqb (edition_byte s) 2 && not (all_zero (part s 10 6)) ≡ true → Broken s (Header (HeaderZero (first_set s 10 6)))
  unfolding fault_point header_point
  header_zero h =
      let z = not-true (all_zero (part s 10 6)) (and_right (eqb (edition_byte s) 2) _ h) in
      header_byte (first_set s 10 6) (eqb-true (edition_byte s) 2 (and_left (eqb (edition_byte s) 2) _ h)) (set_low s 10 6) (set_below s 10 6 z) (set_there s 10 6 z)

  mark_zero : (i : ℕ) → i < slots s → wrong_zeros (edition_of s) s i ≡ true → Broken s (Mark i (Zero (first_set (mark (edition_of s) s i) 6 2)))
  unfolding fault_point mark_point
  mark_zero i l h =
      let m = mark (edition_of s) s i in
      let z = not-true (all_zero (part m 6 2)) h in
      mark_byte i (first_set m 6 2) l (set_low m 6 2) (set_below m 6 2 z) (set_there m 6 2 z)

  -- ---- the rows stand in order, and say what is broken

  slots_ordered : (n i k : ℕ) → i + n ≡ slots s → k ≤ 18 + 16 * i → Ordered (Broken s) k (slot_faults (edition_of s) s n i)
  unfolding slot_faults order fault_point mark_point
  slots_ordered zero i k e h = end
  slots_ordered (suc n) i k e h =
      let l : i < slots s = omega (arith, e) in
      let m = mark (edition_of s) s i in
      row {n = k} {f = Mark i Number} (λ t. let r = (reflects_number i).holds t in number i l r.0 r.1) h
      (row {n = order (Mark i Number)} {f = Mark i Length} (λ t. caption i l (ltb-true 192 (mark_length m) t)) (omega arith)
      (row {n = order (Mark i Length)} {f = Mark i (Zero (first_set m 6 2))} (λ t. mark_zero i l t) (omega (arith, set_low m 6 2))
      (slots_ordered n (suc i) (order (Mark i (Zero (first_set m 6 2)))) (omega (arith, e)) (omega (arith, set_high m 6 2)))))

  ordered : Ordered (Broken s) 0 (faults s)
  unfolding faults order fault_point header_point
  ordered =
      row {n = 0} {f = Header Short} (λ t. short (ltb-true (length s) 8 t)) (omega arith)
      (row {n = order (Header Short)} {f = Header Count} (λ t. count (reflects_count.holds t)) (omega arith)
      (row {n = order (Header Count)} {f = Header Class} (λ t. class ((reflects_not (reflects_class s (key_class s))).holds t)) (omega arith)
      (row {n = order (Header Class)} {f = Header EditionRule} (λ t. edition (reflects_edition.holds t)) (omega arith)
      (row {n = order (Header EditionRule)} {f = Header (HeaderZero (first_set s 10 6))} header_zero (omega (arith, set_low s 10 6))
      (row {n = order (Header (HeaderZero (first_set s 10 6)))} {f = Header SheetLength} (λ t. size (reflects_size.holds t)) (omega (arith, set_high s 10 6))
      (slots_ordered (slots s) 0 (order (Header SheetLength)) (omega arith) (omega arith)))))))

  -- ---- every rule has its row

  -- the rows of slot i, among those of n slots from k
  slots_apply : (n k i : ℕ) (f : Fault) → k ≤ i → i < k + n
      → ((rest : List (Row Fault)) → Applies f ((wrong_number (edition_of s) s i gives Mark i Number) ∷ (wrong_length (edition_of s) s i gives Mark i Length) ∷ (wrong_zeros (edition_of s) s i gives Mark i (Zero (first_set (mark (edition_of s) s i) 6 2))) ∷ rest))
      → Applies f (slot_faults (edition_of s) s n k)
  unfolding slot_faults
  slots_apply zero k i f l h a = absurd (omega arith)
  slots_apply (suc n) k i f l h a = go (dec_le i k) (λ g. slots_apply n (suc k) i f g (omega arith) a)
    where
      go : Dec (i ≤ k) → (suc k ≤ i → Applies f (slot_faults (edition_of s) s n (suc k))) → Applies f (slot_faults (edition_of s) s (suc n) k)
      go (yes g) later = let q : i ≡ k = omega arith in rw (← q) (a (slot_faults (edition_of s) s n (suc i)))
      go (no g) later = there (there (there (later (omega (arith, g)))))

  -- a row that applies and stands no later than f
  record Covered (f : Fault) : Type 0 where
    by : Fault
    applies : Applies by (faults s)
    low : order by ≤ order f

  at : (f : Fault) → Applies f (faults s) → Covered f
  at f a = record { by = f; applies = a; low = omega arith }

  covered : (f : Fault) (p : Point) → Breaks s f p → Covered f
  unfolding faults order
  covered f p (short h) = at (Header Short) (here (lt-ltb (length s) 8 h))
  covered f p (count h) = at (Header Count) (there (here (reflects_yes reflects_count h)))
  covered f p (class h) = at (Header Class) (there (there (here (reflects_yes (reflects_not (reflects_class s (key_class s))) h))))
  covered f p (edition h) = at (Header EditionRule) (there (there (there (here (reflects_yes reflects_edition h)))))
  covered f p (header_byte j e l h d) =
      record {
        by = Header (HeaderZero (first_set s 10 6));
        applies = there (there (there (there (here (and_both (eqb (edition_byte s) 2) (not (all_zero (part s 10 6))) (eq-eqb (edition_byte s) 2 e) (rw (set_some s 10 6 j l h d)))))));
        low = omega (arith, set_least s 10 6 j l h d);
      }
  covered f p (size h) = at (Header SheetLength) (there (there (there (there (there (here (reflects_yes reflects_size h)))))))
  covered f p (number i l b h) =
      at (Mark i Number) (there (there (there (there (there (there (slots_apply (slots s) 0 i (Mark i Number) (omega arith) (omega (arith, l))
      (λ rest. here (reflects_yes (reflects_number i) (b, h))))))))))
  covered f p (caption i l h) =
      at (Mark i Length) (there (there (there (there (there (there (slots_apply (slots s) 0 i (Mark i Length) (omega arith) (omega (arith, l))
      (λ rest. there (here (lt-ltb 192 (mark_length (mark (edition_of s) s i)) h))))))))))
  covered f p (mark_byte i j l a h d) =
      let m = mark (edition_of s) s i in
      record {
        by = Mark i (Zero (first_set m 6 2));
        applies = there (there (there (there (there (there (slots_apply (slots s) 0 i (Mark i (Zero (first_set m 6 2))) (omega arith) (omega (arith, l))
            (λ rest. there (there (here (rw (set_some m 6 2 j a h d)))))))))));
        low = omega (arith, set_least m 6 2 j a h d);
      }

  -- ---- no fault, and the layout

  -- the header's rule of the edition e is that of three rows
  record Header3 (e : Edition) : Type 0 where
    class : e.classes (key_class s) ≡ true
    known : edition_known (edition_byte s) ≡ true
    zero_bytes : eqb (edition_byte s) 2 && not (all_zero (part s 10 6)) ≡ false

  rule_rows : (edition_of s).rule s ≡ true → Header3 (edition_of s)
  unfolding rule1 rule2 rule3 edition_known
  rule_rows =
      edition_cases (λ e. e.rule s ≡ true → Header3 e) s
      (λ g f h. record {
        class = and_left (mcrypton_class (key_class s)) _ h;
        known = rw (and_right (mcrypton_class (key_class s)) _ h);
        zero_bytes = rw (ne_eqb (edition_byte s) 2 g);
      })
      (λ g h. let z = and_right (mcrypton_class (key_class s)) _ h in record {
        class = and_left (mcrypton_class (key_class s)) _ h;
        known = rw g;
        zero_bytes = rw (and_left (eqb (edition_byte s) 2) _ z, and_right (eqb (edition_byte s) 2) _ z);
      })
      (λ g h. record { class = and_left (class_known (key_class s)) _ h; known = rw g; zero_bytes = rw g })

  rows_rule : Header3 (edition_of s) → (edition_of s).rule s ≡ true
  unfolding rule1 rule2 rule3 edition_known
  rows_rule =
      edition_cases (λ e. Header3 e → e.rule s ≡ true) s
      (λ g f r. and_both (mcrypton_class (key_class s)) _ r.class (one (eqb (edition_byte s) 1) (eqb (edition_byte s) 2) (eqb (edition_byte s) 3) (ne_eqb (edition_byte s) 2 g) (ne_eqb (edition_byte s) 3 f) r.known))
      (λ g r. and_both (mcrypton_class (key_class s)) _ r.class (and_both (eqb (edition_byte s) 2) _ (eq-eqb (edition_byte s) 2 g) (two (all_zero (part s 10 6)) (rw (eq-eqb (edition_byte s) 2 g) at r.zero_bytes))))
      (λ g r. and_both (class_known (key_class s)) _ r.class (eq-eqb (edition_byte s) 3 g))
    where
      one : (a b c : Bool) → b ≡ false → c ≡ false → a || (b || c) ≡ true → a ≡ true
      one true b c f g h = refl
      one false true c f g h = sym f
      one false false c f g h = sym g ∙ h

      two : (b : Bool) → not b ≡ false → b ≡ true
      two true h = refl
      two false h = sym h

  slots_quiet : (n i : ℕ) → Fits s → i + n ≡ slots s → Quiet (slot_faults (edition_of s) s n i)
  unfolding slot_faults
  slots_quiet zero i r e = end
  slots_quiet (suc n) i r e =
      let l : i < slots s = omega (arith, e) in
      let z = length_mark (edition_of s) s r i l in
      let f = r.slot i l in
      row (fit_number (edition_of s) s i z f) (row (fit_length (edition_of s) s i z f) (row (fit_zeros (edition_of s) s i z f) (slots_quiet n (suc i) r (omega (arith, e)))))

  fits_quiet : Fits s → Quiet (faults s)
  unfolding faults
  fits_quiet r =
      let h = rule_rows r.rule in
      row (le-ltb (length s) 8 r.long)
      (row {t = not (slot_count (slots s))} (rw r.count)
      (row {t = not ((edition_of s).classes (key_class s))} (rw h.class)
      (row {t = not (edition_known (edition_byte s))} (rw h.known)
      (row h.zero_bytes
      (row {t = not (eqb (length s) (sheet_size (edition_of s).header (slots s)))} (rw (eq-eqb (length s) (sheet_size (edition_of s).header (slots s)) r.size))
      (slots_quiet (slots s) 0 r (omega arith)))))))

  quiet_slot : (n k i : ℕ) → Quiet (slot_faults (edition_of s) s n k) → k ≤ i → i < k + n → fit_slot (edition_of s) s i ≡ true
  unfolding slot_faults
  quiet_slot zero k i q l h = absurd (omega arith)
  quiet_slot (suc n) k i (row a (row b (row c q))) l h = go (dec_le i k) (λ g. quiet_slot n (suc k) i q g (omega arith))
    where
      go : Dec (i ≤ k) → (suc k ≤ i → fit_slot (edition_of s) s i ≡ true) → fit_slot (edition_of s) s i ≡ true
      go (yes g) later = let p : i ≡ k = omega arith in rw p (rows_fit (edition_of s) s k a b c)
      go (no g) later = later (omega (arith, g))

  quiet_fits : Quiet (faults s) → Fits s
  unfolding faults
  quiet_fits (row a (row b (row c (row d (row z (row f q)))))) =
      record {
        long = ltb-false (length s) 8 a;
        count = not-false _ b;
        rule = rows_rule (record { class = not-false _ c; known = not-false _ d; zero_bytes = z });
        size = eqb-true (length s) (sheet_size (edition_of s).header (slots s)) (not-false _ f);
        slot = λ i l. quiet_slot (slots s) 0 i q (omega arith) (omega arith);
      }

-- ---- the order tells faults apart

unfoldable header_at : ℕ → HeaderRule
header_at n = if eqb n 0 then Short otherwise if eqb n 1 then Count otherwise if eqb n 3 then Class otherwise if eqb n 4 then EditionRule otherwise if eqb n 17 then SheetLength otherwise HeaderZero (n - 1)

unfoldable mark_at : ℕ → MarkRule
mark_at n = if eqb n 0 then Number otherwise if eqb n 4 then Length otherwise Zero n

unfoldable fault_at : ℕ → Fault
fault_at n = if ltb n 18 then Header (header_at n) otherwise Mark ((n - 18) / 16) (mark_at ((n - 18) % 16))

module _ (s : List ℕ) where
  mark_at_lem : (i k : ℕ) (r : MarkRule) → k < 16 → mark_at k ≡ r → fault_at (18 + 16 * i + k) ≡ Mark i r
  unfolding fault_at
  mark_at_lem i k r l e =
      let a : (18 + 16 * i + k - 18) / 16 ≡ i = omega arith in
      let b : (18 + 16 * i + k - 18) % 16 ≡ k = omega arith in
      rw (le-ltb (18 + 16 * i + k) 18 (omega arith), a, b, e)

  at_order : (f : Fault) (p : Point) → Breaks s f p → fault_at (order f) ≡ f
  unfolding order fault_at header_at mark_at
  at_order f p (short h) = refl
  at_order f p (count h) = refl
  at_order f p (class h) = refl
  at_order f p (edition h) = refl
  at_order f p (header_byte j e l h d) =
      let q : 1 + j - 1 ≡ j = omega arith in
      rw (
        lt-ltb (1 + j) 18 (omega (arith, h)),
        ne_eqb (1 + j) 0 (λ e. omega (arith, e)),
        ne_eqb (1 + j) 1 (λ e. omega (arith, e, l)),
        ne_eqb (1 + j) 3 (λ e. omega (arith, e, l)),
        ne_eqb (1 + j) 4 (λ e. omega (arith, e, l)),
        ne_eqb (1 + j) 17 (λ e. omega (arith, e, h)),
        q,
      )
  at_order f p (size h) = refl
  at_order f p (number i l b h) = ap fault_at {x = 18 + 16 * i} {y = 18 + 16 * i + 0} (omega arith) ∙ mark_at_lem i 0 Number (omega arith) refl
  at_order f p (caption i l h) = mark_at_lem i 4 Length (omega arith) refl
  at_order f p (mark_byte i j l a h d) =
      mark_at_lem i j (Zero j) (omega (arith, h)) (rw (ne_eqb j 0 (λ e. omega (arith, e, a)), ne_eqb j 4 (λ e. omega (arith, e, a))))

-- ---- the record

module _ (s : List ℕ) where
  low : (f : Fault) (p : Point) → Breaks s f p → Lowest (Broken s) f (first_fault s)
  unfolding first_fault
  low f p b =
      let c = covered s f p b in
      let r = lowest (faults s) (ordered s) c.applies in
      record { fault = r.fault; is = r.is; holds = r.holds; low = omega (arith, r.low, c.low) }

  pub is_broken : (f : Fault) → first_fault s ≡ Some f → Breaks s f (fault_point f)
  unfolding first_fault
  is_broken = found (faults s) (ordered s)

  pub not_none : (f : Fault) (p : Point) → Breaks s f p → first_fault s ≡ None → ⊥
  not_none f p b e = let l = low f p b in let q = l.is in cc

  pub lowest_first : (f : Fault) (p : Point) → Breaks s f p → (g : Fault) → first_fault s ≡ Some g → order g ≤ order f
  lowest_first f p b g e = let l = low f p b in let q = l.is in let r : l.fault ≡ g = cc in subst (λ (h : Fault). order h ≤ order f) r l.low

  pub fit_none : fit s ≡ true → first_fault s ≡ None
  unfolding first_fault
  fit_none e = quiet_none (fits_quiet s (fit_facts s e))

  pub none_fit : first_fault s ≡ None → fit s ≡ true
  unfolding first_fault
  none_fit e = fits_fit s (quiet_fits s (none_quiet (faults s) e))

  -- the fault of a sheet that isn't fit is its first
  pub unfit_some : fit s ≡ false → first_fault s ≡ Some (fault_of s)
  unfolding fault_of
  unfit_some u = go (first_fault s) refl
    where
      go : (o : Option Fault) → first_fault s ≡ o → o ≡ Some (unwrap_or o (Header Short))
      go None e = absurd (false≢true (sym u ∙ none_fit e))
      go (Some f) e = refl

  pub only_first : (f : Fault) (p : Point) → Breaks s f p → ((g : Fault) (q : Point) → Breaks s g q → order f ≤ order g) → first_fault s ≡ Some f
  only_first f p b h =
      let l = low f p b in
      let q : order l.fault ≡ order f = omega (arith, l.low, h l.fault (fault_point l.fault) l.holds) in
      l.is ∙ ap Some (sym (at_order s l.fault (fault_point l.fault) l.holds) ∙ ap fault_at q ∙ at_order s f p b)
