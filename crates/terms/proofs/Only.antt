-- Bytes that fit n slots are the term sheet of their days.
use mathlib.Core.Path.{◌≡◌, refl, sym, ap, ap₂, ◌∙◌, subst}
use mathlib.Core.Bool.{true}
use mathlib.Core.List.{List, [], ◌∷◌, ◌++◌}
use Prim.Native.Nat.{ℕ, zero, suc, ◌+◌, ◌*◌, ◌≤◌, ◌<◌}
use native.Mathlib.Omega.{arith}
use lib.ListN.{length, get_or}
use Rattle.octets.specs.Bytes.{Bytes, be, number, part}
use Rattle.octets.proofs.EveryByte.{part_bytes}
use Rattle.octets.proofs.Numbers.{be_number}
use Rattle.octets.proofs.Parts.{length_part, part_add, part_all}
use Rattle.terms.specs.Terms.{count, opening, closing, fit_terms}
use Rattle.terms.specs.Laws.{day_bytes, term_sheet, Days, TermsOfDays}
use Rattle.terms.proofs.Meaning.{reflects_terms}

-- the n days from place a
days_from : ℕ → ℕ → List ℕ → List ℕ
days_from zero a t = []
days_from (suc n) a t = number (part t a 2) ∷ days_from n (a + 2) t

length_from : (n a : ℕ) (t : List ℕ) → length (days_from n a t) ≡ n
unfolding days_from
length_from zero a t = refl
length_from (suc n) a t = ap suc (length_from n (a + 2) t)

-- a bound on each of them is one on the list's entries
bounded : (n a : ℕ) (t : List ℕ) (m : ℕ) → ((i : ℕ) → i < n → number (part t (a + 2 * i) 2) ≤ m) → (i : ℕ) → get_or (days_from n a t) i 0 ≤ m
unfolding days_from
bounded zero a t m h i = omega arith
bounded (suc n) a t m h zero =
    subst (λ (b : ℕ). number (part t b 2) ≤ m) {x = a + 2 * 0} {y = a} (omega arith) (h 0 (omega arith))
bounded (suc n) a t m h (suc i) =
    bounded n (a + 2) t m
    (λ j l. subst (λ (b : ℕ). number (part t b 2) ≤ m) {x = a + 2 * suc j} {y = a + 2 + 2 * j} (omega arith) (h (suc j) (omega arith)))
    i

module _ (t : List ℕ) (b : Bytes t) where
  two : (a : ℕ) → a + 2 ≤ length t → be 2 (number (part t a 2)) ≡ part t a 2
  two a l = ap (λ (k : ℕ). be k (number (part t a 2))) (sym (length_part t a 2 l)) ∙ be_number (part_bytes a 2 b)

  bytes_from : (n a : ℕ) → a + 2 * n ≤ length t → day_bytes (days_from n a t) ≡ part t a (2 * n)
  unfolding day_bytes days_from
  bytes_from zero a l = refl
  bytes_from (suc n) a l =
      ap₂ (λ (u v : List ℕ). u ++ v) (two a (omega arith)) (bytes_from n (a + 2) (omega arith))
      ∙ sym (part_add t a 2 (2 * n))
      ∙ ap (part t a) {x = 2 + 2 * n} {y = 2 * suc n} (omega arith)

  module _ (n : ℕ) (f : n ≤ 256) (g : fit_terms n t ≡ true) where
    openings : List ℕ
    openings = days_from n 2 t

    closings : List ℕ
    closings = days_from n (2 + 2 * n) t

    size : length t ≡ 2 + 4 * n
    size = ((reflects_terms n t).holds g).size

    days : Days openings closings
    unfolding opening closing openings closings
    days =
        let m = (reflects_terms n t).holds g in
        record {
          as_many = length_from n (2 + 2 * n) t ∙ sym (length_from n 2 t);
          few = omega (arith, length_from n 2 t);
          opening_days = bounded n 2 t 36524 m.openings;
          closing_days = bounded n (2 + 2 * n) t 36524 m.closings;
        }

    head : part t 0 2 ≡ be 2 (length openings)
    unfolding count openings
    head = sym (two 0 (omega (arith, size))) ∙ ap (be 2) (((reflects_terms n t).holds g).same_count ∙ sym (length_from n 2 t))

    is : t ≡ term_sheet openings closings
    unfolding term_sheet openings closings
    is =
        sym (part_all t (2 + (2 * n + 2 * n)) (omega (arith, size)))
        ∙ part_add t 0 2 (2 * n + 2 * n)
        ∙ ap₂ (λ (u v : List ℕ). u ++ v) head
        (part_add t 2 (2 * n) (2 * n)
        ∙ ap₂ (λ (u v : List ℕ). u ++ v) (sym (bytes_from n 2 (omega (arith, size)))) (sym (bytes_from n (2 + 2 * n) (omega (arith, size)))))

pub only : (n : ℕ) (t : List ℕ) → n ≤ 256 → Bytes t → fit_terms n t ≡ true → TermsOfDays n t
unfolding openings
only n t f b g = record { openings = openings t b n f g; closings = closings t b n f g; days = days t b n f g; of_n = length_from n 2 t; is = is t b n f g }
