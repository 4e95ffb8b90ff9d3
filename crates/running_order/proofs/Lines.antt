-- Laws of lines put after a text, one for each way out of a function that puts them.
use Prim.Native.Nat.{ℕ, ◌+◌, ◌/◌, ◌%◌, ◌≤◌, ◌<◌}
use mathlib.Core.Path.{◌≡◌, refl, sym, ap, ◌∙◌}
use mathlib.Core.List.{List, [], ◌∷◌, ◌++◌, map, append_assoc, append-nil}
use native.Mathlib.Numerals.{add-one}
use native.Mathlib.Omega.{arith}
use lib.ListN.{length, take, get_or}
use lib.Seq.{take-suc, take_all}
use Rattle.octets.specs.Bytes.{number, part}
use Rattle.layout.specs.declared.Shape.{Shape}
use Rattle.layout.specs.Layout.{slots, mark_at}
use Rattle.layout.specs.Shape.{SlotIn, SheetOf}
use Rattle.layout.proofs.Slots.{slots_are, slot_of}
use Rattle.terms.specs.Terms.{opening, closing}
use Rattle.dates.specs.DateText.{day_text}
use Rattle.listing.specs.Listing.{decimal, space, line_feed, ended, line}
use Rattle.listing.proofs.Decimal.{decimal_one, decimal_more}
use Rattle.listing.proofs.Lines.{length_read}
use Rattle.sorting.proofs.Laws.{each_at}
use Rattle.running_order.specs.Order.{show_line, show_lines}
use Rattle.running_order.specs.Inner.{Carry}

-- the digits of a number, one, two, and three, put after v
module _ (v m : List ℕ) (x : ℕ) where
  pub one_put : x < 10 → m ≡ ended v (48 + x) → m ≡ v ++ decimal x
  one_put h e = e ∙ ap (λ (d : List ℕ). v ++ d) (sym (decimal_one x h))

  pub two_put : 10 ≤ x → x < 100 → m ≡ ended (ended v (48 + x / 10)) (48 + x % 10) → m ≡ v ++ decimal x
  two_put h g e =
      e ∙ append_assoc v ((48 + x / 10) ∷ []) ((48 + x % 10) ∷ [])
      ∙ ap (λ (d : List ℕ). v ++ d) (sym (decimal_more x h ∙ ap (λ (d : List ℕ). d ++ ((48 + x % 10) ∷ [])) (decimal_one (x / 10) (omega arith))))

pub three_put : (v m : List ℕ) (x : ℕ) → 100 ≤ x → x < 1000 → m ≡ ended (ended (ended v (48 + x / 10 / 10)) (48 + x / 10 % 10)) (48 + x % 10) → m ≡ v ++ decimal x
three_put v m x h g e =
    let t = ended (ended v (48 + x / 10 / 10)) (48 + x / 10 % 10) in
    e ∙ ap (λ (d : List ℕ). ended d (48 + x % 10)) (two_put v t (x / 10) (omega arith) (omega arith) refl)
    ∙ append_assoc v (decimal (x / 10)) ((48 + x % 10) ∷ [])
    ∙ ap (λ (d : List ℕ). v ++ d) (sym (decimal_more x (omega arith)))

-- ---- the line of slot i of the sheets s and t

module _ (s t : List ℕ) (h : Shape) (i : ℕ) (p : SlotIn s h i) where
  pub line_put : (v m o u x : List ℕ) → m ≡ v ++ ended (decimal i) space
      → (y : ℕ) → y ≡ opening t i → o ≡ m ++ ended (day_text y) space
      → (z : ℕ) → z ≡ closing h.slots t i → u ≡ o ++ ended (day_text z) space
      → (k : ℕ) → k ≡ mark_at h.header i → (n : ℕ) → n ≡ number (part s (k + 4) 2) → x ≡ u ++ ended (decimal n) line_feed
      → x ≡ v ++ show_line s t i
  unfolding show_line line
  line_put v m o u x p₁ y e p₂ z f p₃ k q n j p₄ =
      let closes : z ≡ closing (slots s) t i = f ∙ ap (λ (w : ℕ). closing w t i) (slots_are s h i p) in
      p₄ ∙ rw (p₃, p₂, p₁, ← e, ← closes, ← length_read s h i p k q n j) (simp append_assoc)

-- ---- the lines of the slots that the numbers l carry

pub carried_slot : (s : List ℕ) (h : Shape) (l : List ℕ) (j : ℕ) → SheetOf s h → Carry l h.slots → j < length l → SlotIn s h (get_or l j 0 % 256)
carried_slot s h l j p c g = slot_of s h p (get_or l j 0 % 256) (each_at (λ k. k % 256 < h.slots) l j c.slots g)

module _ (s t : List ℕ) where
  -- the lines of the first j
  abbrev lines : ℕ → List ℕ → List ℕ
  lines j l = show_lines s t (map (λ k. k % 256) (take j l))

  lines_snoc : (ks : List ℕ) (k : ℕ) → show_lines s t (map (λ k. k % 256) (ks ++ (k ∷ []))) ≡ show_lines s t (map (λ k. k % 256) ks) ++ show_line s t (k % 256)
  unfolding show_lines
  lines_snoc [] k = append-nil (show_line s t (k % 256))
  lines_snoc (x ∷ ks) k =
      ap (λ (y : List ℕ). show_line s t (x % 256) ++ y) (lines_snoc ks k)
      ∙ sym (append_assoc (show_line s t (x % 256)) (show_lines s t (map (λ k. k % 256) ks)) (show_line s t (k % 256)))

  pub no_lines_put : (m l : List ℕ) → m ≡ [] → m ≡ lines 0 l
  unfolding show_lines
  no_lines_put m l e = e

  pub next_put : (l m x : List ℕ) (j : ℕ) → j < length l → m ≡ lines j l → x ≡ m ++ show_line s t (get_or l j 0 % 256) → x ≡ lines (j + 1) l
  next_put l m x j h p q =
      q ∙ ap (λ (y : List ℕ). y ++ show_line s t (get_or l j 0 % 256)) p
      ∙ sym (rw (add-one j) (ap (λ (ks : List ℕ). show_lines s t (map (λ k. k % 256) ks)) (take-suc l j 0 h) ∙ lines_snoc (take j l) (get_or l j 0)))

  pub lines_put : (l m : List ℕ) (j : ℕ) → length l ≤ j → m ≡ lines j l → m ≡ show_lines s t (map (λ k. k % 256) l)
  lines_put l m j g p = p ∙ ap (λ (ks : List ℕ). show_lines s t (map (λ k. k % 256) ks)) (take_all j l g)
