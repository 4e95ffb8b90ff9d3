-- A blank or written slot stored in any fit sheet leaves it fit.
use Prim.Native.Nat.{ℕ, ◌≤◌, ◌<◌}
use mathlib.Core.Path.{◌≡◌, refl, sym, ◌∙◌}
use mathlib.Core.Bool.{Bool, true, false, ◌&&◌, ◌||◌, false≢true}
use mathlib.Core.List.{List}
use native.Mathlib.Decide.{ℕ_discrete}
use native.Mathlib.Omega.{arith}
use Rattle.octets.specs.Bytes.{all_zero}
use Rattle.layout.specs.Layout.{Edition, slots, last_write, written_mark, mark, field, blank_slot, fit_slot}
use Rattle.layout.proofs.Fits.{Rules, Written, mark_written, written_mark_lem}
use Rattle.captions.specs.Claim.{Regular}
use Rattle.captions.proofs.Store.{Stored, slots_kept}

or_left : (a b : Bool) → a || b ≡ true → b ≡ false → a ≡ true
or_left true b h g = refl
or_left false b h g = sym g ∙ h

pub or_right : (a b : Bool) → a || b ≡ true → a ≡ false → b ≡ true
or_right true b h g = absurd (false≢true (sym g))
or_right false b h g = h

pub or_last : (a b : Bool) → b ≡ true → a || b ≡ true
or_last true b h = refl
or_last false b h = h

or_mono : (a b c : Bool) → (b ≡ true → c ≡ true) → a || b ≡ true → a || c ≡ true
or_mono true b c f h = refl
or_mono false b c f h = f h

-- ---- written marks

-- a higher last write number does no harm
written_later : (w v : ℕ) (m : List ℕ) → w ≤ v → written_mark w m ≡ true → written_mark v m ≡ true
written_later w v m l h =
    let p : Written w m = mark_written w m h in
    written_mark_lem v m (record { positive = p.positive; at_most = omega (arith, p.at_most); short = p.short; pad = p.pad })

-- with last write number 0 no mark is written, and every slot is blank
none_written : (m : List ℕ) → written_mark 0 m ≡ false
none_written m = go (written_mark 0 m) refl
  where
    go : (b : Bool) → written_mark 0 m ≡ b → written_mark 0 m ≡ false
    go false h = h
    go true h = absurd (omega (arith, (mark_written 0 m h).positive, (mark_written 0 m h).at_most))

pub unused_blank : (e : Edition) (s : List ℕ) → Rules e s → last_write s ≡ 0 → (i : ℕ) → i < slots s → blank_slot e s i ≡ true
unfolding fit_slot
unused_blank e s r unused i h = or_left (blank_slot e s i) (written_mark (last_write s) (mark e s i)) (r.slot i h) (rw unused (none_written (mark e s i)))

-- ---- the rules are kept

-- a mark and a field that make a fit slot, where w is the last write number
unfoldable pub slot_fits : ℕ → List ℕ → List ℕ → Bool
slot_fits w m f = (all_zero m && all_zero f) || written_mark w m

pub stored_rules : (e : Edition) → Regular e → (j w : ℕ) (m f s s' : List ℕ) → Rules e s → Stored e j w m f s s'
    → last_write s ≤ w → slot_fits w m f ≡ true → Rules e s'
unfolding fit_slot blank_slot slot_fits
stored_rules e reg j w m f s s' r st grows h =
    record {
      long = omega (arith, r.long, st.size);
      count = rw (← slots_kept st.header) r.count;
      rule = sym (reg.rule_kept s s' st.header) ∙ r.rule;
      size = rw (← slots_kept st.header) (st.size ∙ r.size);
      slot = λ i l. go i (omega (arith, slots_kept st.header)) (ℕ_discrete i j);
    }
  where
    go : (i : ℕ) → i < slots s → Dec (i ≡ j) → fit_slot e s' i ≡ true
    go i l (yes t) = rw (t, st.mark_at_lem, st.field_at_lem, st.last) h
    go i l (no t) =
        rw (st.mark_other i l t, st.field_other i l t, st.last)
        (or_mono (all_zero (mark e s i) && all_zero (field e s i)) (written_mark (last_write s) (mark e s i)) (written_mark w (mark e s i))
        (written_later (last_write s) w (mark e s i) grows) (r.slot i l))
