-- The term sheet of given days is fit, and has those days.
use mathlib.Core.Path.{◌≡◌, refl, ap, ◌∙◌}
use mathlib.Core.List.{List, [], ◌∷◌, ◌++◌}
use Prim.Native.Nat.{ℕ, zero, suc, ◌+◌, ◌*◌, ◌≤◌, ◌<◌}
use native.Mathlib.Nat.{not-suc-le-zero}
use native.Mathlib.Omega.{arith}
use lib.ListN.{length, get_or, length-append}
use Rattle.octets.specs.Bytes.{be, number, part}
use Rattle.octets.proofs.Clauses.{reflects_yes}
use Rattle.octets.proofs.Numbers.{length_be, number_be}
use Rattle.octets.proofs.Parts.{part_append_left, part_append_right, part_append_head}
use Rattle.terms.specs.Terms.{count, opening, closing}
use Rattle.terms.specs.Rules.{MeetsTerms}
use Rattle.terms.specs.Laws.{day_bytes, term_sheet, Days, Stored}
use Rattle.terms.proofs.Meaning.{reflects_terms}

length_days : (days : List ℕ) → length (day_bytes days) ≡ 2 * length days
unfolding day_bytes
length_days [] = refl
length_days (day ∷ days) = length-append (be 2 day) (day_bytes days) ∙ omega (arith, length_be 2 day, length_days days)

-- day i of the days
day_part : (days : List ℕ) (i : ℕ) → i < length days → part (day_bytes days) (2 * i) 2 ≡ be 2 (get_or days i 0)
unfolding day_bytes
day_part [] i h = absurd (not-suc-le-zero h)
day_part (day ∷ days) zero h = part_append_head (be 2 day) (day_bytes days) 2 (length_be 2 day)
day_part (day ∷ days) (suc i) h =
    part_append_right (be 2 day) (day_bytes days) (2 * suc i) (2 * i) 2 (omega (arith, length_be 2 day))
    ∙ day_part days i (omega arith)

two_bytes : (n : ℕ) → n ≤ 36524 → number (be 2 n) ≡ n
two_bytes n l = number_be 2 n (omega arith)

module _ (os cs : List ℕ) (d : Days os cs) where
  days : List ℕ
  days = day_bytes os ++ day_bytes cs

  sheet : List ℕ
  sheet = term_sheet os cs

  head_size : length (be 2 (length os)) ≡ 2
  head_size = length_be 2 (length os)

  count_is : count sheet ≡ length os
  unfolding count sheet term_sheet days
  count_is = ap number (part_append_head (be 2 (length os)) days 2 head_size) ∙ two_bytes (length os) (omega (arith, d.few))

  size_is : length sheet ≡ 2 + 4 * length os
  unfolding sheet term_sheet
  size_is =
      length-append (be 2 (length os)) (day_bytes os ++ day_bytes cs)
      ∙ omega (arith, head_size, length-append (day_bytes os) (day_bytes cs), length_days os, length_days cs, d.as_many)

  opens : (i : ℕ) → i < length os → opening sheet i ≡ get_or os i 0
  unfolding opening sheet term_sheet
  opens i l =
      ap number
      (part_append_right (be 2 (length os)) (day_bytes os ++ day_bytes cs) (2 + 2 * i) (2 * i) 2 (omega (arith, head_size))
      ∙ part_append_left (day_bytes os) (day_bytes cs) (2 * i) 2 (omega (arith, length_days os))
      ∙ day_part os i l)
      ∙ two_bytes (get_or os i 0) (d.opening_days i)

  closes : (i : ℕ) → i < length os → closing (length os) sheet i ≡ get_or cs i 0
  unfolding closing sheet term_sheet
  closes i l =
      ap number
      (part_append_right (be 2 (length os)) (day_bytes os ++ day_bytes cs) (2 + 2 * length os + 2 * i) (2 * length os + 2 * i) 2 (omega (arith, head_size))
      ∙ part_append_right (day_bytes os) (day_bytes cs) (2 * length os + 2 * i) (2 * i) 2 (omega (arith, length_days os))
      ∙ day_part cs i (omega (arith, d.as_many)))
      ∙ two_bytes (get_or cs i 0) (d.closing_days i)

  meets : MeetsTerms (length os) sheet
  meets =
      record {
        same_count = count_is;
        size = size_is;
        openings = λ i l. omega (arith, opens i l, d.opening_days i);
        closings = λ i l. omega (arith, closes i l, d.closing_days i);
      }

  pub stored : Stored os cs
  unfolding sheet
  stored = record { fits = reflects_yes (reflects_terms (length os) sheet) meets; opens = opens; closes = closes }
