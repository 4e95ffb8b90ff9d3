-- What the three refusals of a dated read come to, written out.
use Prim.Native.Nat.{ℕ, ◌≤◌, ◌<◌}
use mathlib.Core.Path.{◌≡◌}
use mathlib.Core.List.{List}
use mathlib.Core.Logic.{◌↔◌, ◌⊎◌, inl, inr, ⊎_elim}
use native.Mathlib.Decide.{dec_le}
use native.Mathlib.Omega.{arith}
use Rattle.layout.specs.Layout.{slots}
use Rattle.captions.specs.Captions.{Keys}
use Rattle.terms.specs.Terms.{opening, closing}
use Rattle.terms.specs.Rules.{OnShow}
use Rattle.terms.proofs.Plain.{show_plain}
use Rattle.dated.specs.Laws.{NoneTo, RefusalsAre}

-- no refusal from 1 to m
none_plain : (m u : ℕ) → NoneTo m u ↔ ((u ≡ 0) ⊎ (m < u))
none_plain m u = (there (dec_le 1 u), λ h l. ⊎_elim (λ e. absurd (omega (arith, e))) (λ g. g) h)
  where
    there : Dec (1 ≤ u) → NoneTo m u → (u ≡ 0) ⊎ (m < u)
    there (yes l) h = inr (h l)
    there (no l) h = inl (omega (arith, l))

-- off show
off_plain : (n : ℕ) (t : List ℕ) (i day : ℕ) → (OnShow n t i day → ⊥) ↔ ((day < opening t i) ⊎ (closing n t i < day))
off_plain n t i day = (there (dec_le (opening t i) day) (dec_le day (closing n t i)), back)
  where
    there : Dec (opening t i ≤ day) → Dec (day ≤ closing n t i) → (OnShow n t i day → ⊥) → (day < opening t i) ⊎ (closing n t i < day)
    there (no a) b h = inl (omega (arith, a))
    there (yes a) (no b) h = inr (omega (arith, b))
    there (yes a) (yes b) h = absurd (h ((show_plain n t i day).1 (a, b)))

    back : (day < opening t i) ⊎ (closing n t i < day) → OnShow n t i day → ⊥
    back h o = let p = (show_plain n t i day).0 o in ⊎_elim (λ l. omega (arith, l, p.0)) (λ l. omega (arith, l, p.1)) h

pub refusals : (k : Keys) (s t : List ℕ) (i day : ℕ) (window : List ℕ) → RefusalsAre k s t i day window
refusals k s t i day window =
    record {
      for_terms = (λ r. (r.unfit, (none_plain 4 _).0 r.undated), λ h. record { unfit = h.0; undated = (none_plain 4 _).1 h.1 });
      for_date = (λ r. (r.terms, r.late, (none_plain 5 _).0 r.undated), λ h. record { terms = h.0; late = h.1; undated = (none_plain 5 _).1 h.2 });
      for_show = (
        λ r. (r.terms, r.in_time, (off_plain (slots s) t i day).0 r.off, r.undated),
        λ h. record { terms = h.0; in_time = h.1; off = (off_plain (slots s) t i day).1 h.2; undated = h.3 },
      );
    }
