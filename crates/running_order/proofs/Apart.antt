-- The text read back: no word has a space or a line feed.
use Prim.Native.Nat.{ℕ, zero, suc, ◌+◌, ◌/◌, ◌%◌, ◌≤◌}
use mathlib.Core.Path.{◌≡◌, refl, ap, ◌∙◌}
use mathlib.Core.Bool.{Bool, true, false}
use mathlib.Core.List.{List, [], ◌∷◌, ◌++◌, map, append_assoc}
use native.Mathlib.Omega.{arith}
use borrow.Author.Tests.{eq-eqb, ne_eqb}
use lib.Dec.{ltb}
use Rattle.octets.specs.Bytes.{if◌then◌otherwise◌}
use Rattle.octets.specs.Clauses.{Each, none, and}
use Rattle.layout.specs.Layout.{slots, edition_of, mark_length, mark}
use Rattle.terms.specs.Terms.{opening, closing}
use Rattle.dates.specs.DateText.{date_text, day_text}
use Rattle.listing.specs.Listing.{digits, decimal, line}
use Rattle.sorting.proofs.Laws.{each_as, each_append}
use Rattle.running_order.specs.Order.{show_line, show_lines}
use Rattle.running_order.specs.Laws.{words, on_first, cut_at}

-- ---- a text cut after a word that lacks the byte, and at its end

module _ (b : ℕ) where
  abbrev Lacks : List ℕ → Type 0
  Lacks w = Each (λ c. c ≡ b → ⊥) w

  cut_word : (w r : List ℕ) → Lacks w → cut_at b (w ++ (b ∷ r)) ≡ w ∷ cut_at b r
  unfolding cut_at on_first
  cut_word [] r none = rw (eq-eqb b b refl)
  cut_word (c ∷ w) r (and n p) = rw (ne_eqb c b n, cut_word w r p)

  cut_end : (w : List ℕ) → Lacks w → cut_at b w ≡ w ∷ []
  unfolding cut_at on_first
  cut_end [] none = refl
  cut_end (c ∷ w) (and n p) = rw (ne_eqb c b n, cut_end w p)

-- ---- the bytes of words: digits and hyphens

abbrev Inked : List ℕ → Type 0
Inked w = Each (λ c. 45 ≤ c) w

digits_inked : (k n : ℕ) → Inked (digits k n)
unfolding digits
digits_inked zero n = none
digits_inked (suc k) n = go (ltb n 10) (digits_inked k (n / 10))
  where
    go : (b : Bool) → Inked (digits k (n / 10)) → Inked (if b then ((48 + n) ∷ []) otherwise (digits k (n / 10) ++ ((48 + n % 10) ∷ [])))
    go true q = and {n = 48 + n} (omega arith) none
    go false q = each_append (λ c. 45 ≤ c) (digits k (n / 10)) ((48 + n % 10) ∷ []) q (and {n = 48 + n % 10} (omega arith) none)

decimal_inked : (n : ℕ) → Inked (decimal n)
unfolding decimal
decimal_inked n = digits_inked (suc n) n

day_inked : (n : ℕ) → Inked (day_text n)
unfolding day_text date_text
day_inked n =
    let d : (z : ℕ) → 45 ≤ 48 + z = λ z. omega arith in
    let hyphen : 45 ≤ 45 = omega arith in
    and (d _) (and (d _) (and (d _) (and (d _) (and hyphen (and (d _) (and (d _) (and hyphen (and (d _) (and (d _) none)))))))))

no_space : (w : List ℕ) → Inked w → Lacks 32 w
no_space w p = each_as (λ c. 45 ≤ c) (λ c. c ≡ 32 → ⊥) w (λ c h e. omega arith) p

no_feed : (w : List ℕ) → Inked w → Lacks 10 w
no_feed w p = each_as (λ c. 45 ≤ c) (λ c. c ≡ 10 → ⊥) w (λ c h e. omega arith) p

-- ---- lines and their words

module _ (s t : List ℕ) where
  pub a_line : (i : ℕ) → show_line s t i ≡ words s t i ++ (10 ∷ [])
  unfolding show_line line
  a_line i = simp append_assoc

  module _ (i : ℕ) where
    abbrev opens : List ℕ
    opens = day_text (opening t i)

    abbrev closes : List ℕ
    closes = day_text (closing (slots s) t i)

    abbrev len : List ℕ
    len = decimal (mark_length (mark (edition_of s) s i))

    pub words_apart : cut_at 32 (words s t i) ≡ decimal i ∷ opens ∷ closes ∷ len ∷ []
    words_apart =
        cut_word 32 (decimal i) (opens ++ (32 ∷ (closes ++ (32 ∷ len)))) (no_space (decimal i) (decimal_inked i))
        ∙ ap (λ (ws : List (List ℕ)). decimal i ∷ ws)
        (cut_word 32 opens (closes ++ (32 ∷ len)) (no_space opens (day_inked (opening t i)))
        ∙ ap (λ (ws : List (List ℕ)). opens ∷ ws)
        (cut_word 32 closes len (no_space closes (day_inked (closing (slots s) t i)))
        ∙ ap (λ (ws : List (List ℕ)). closes ∷ ws) (cut_end 32 len (no_space len (decimal_inked (mark_length (mark (edition_of s) s i)))))))

    words_lack : Lacks 10 (words s t i)
    words_lack =
        let join : (x y : List ℕ) → Lacks 10 x → Lacks 10 y → Lacks 10 (x ++ (32 ∷ y)) =
        λ x y p q. each_append (λ c. c ≡ 10 → ⊥) x (32 ∷ y) p (and (λ e. omega arith) q) in
        join (decimal i) (opens ++ (32 ∷ (closes ++ (32 ∷ len)))) (no_feed (decimal i) (decimal_inked i))
        (join opens (closes ++ (32 ∷ len)) (no_feed opens (day_inked (opening t i)))
        (join closes len (no_feed closes (day_inked (closing (slots s) t i))) (no_feed len (decimal_inked (mark_length (mark (edition_of s) s i))))))

  pub lines_apart : (is : List ℕ) → cut_at 10 (show_lines s t is) ≡ map (words s t) is ++ ([] ∷ [])
  unfolding show_lines cut_at
  lines_apart [] = refl
  lines_apart (i ∷ is) =
      ap (cut_at 10) (ap (λ (l : List ℕ). l ++ show_lines s t is) (a_line i) ∙ append_assoc (words s t i) (10 ∷ []) (show_lines s t is))
      ∙ cut_word 10 (words s t i) (show_lines s t is) (words_lack i)
      ∙ ap (λ (ws : List (List ℕ)). words s t i ∷ ws) (lines_apart is)
