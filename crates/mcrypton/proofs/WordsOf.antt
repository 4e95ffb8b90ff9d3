-- The words of a list of bytes, by their places, and there and back.
use mathlib.Core.Path.{◌≡◌, refl, sym, ap, ap₂, ◌∙◌}
use mathlib.Core.List.{List, [], ◌∷◌}
use Prim.Native.Nat.{ℕ, zero, suc, ◌+◌, ◌*◌, ◌/◌, ◌%◌, ◌≤◌, ◌<◌}
use native.Mathlib.Nat.{not-suc-le-zero, div-add-mod'}
use native.Mathlib.Omega.{arith}
use lib.ListN.{get_or, length}
use lib.Arith.{digits_div, digits_mod}
use lib.Seq.{ext_get_or}
use Rattle.octets.specs.Bytes.{Bytes, none, more}
use Rattle.octets.proofs.Parts.{tab_all}
use Rattle.schedule.specs.Schedule.{Words}
use Rattle.schedule.proofs.Registers.{words_nil, words_cons}
use Rattle.rounds.proofs.Xor4.{cases4}
use Rattle.mcrypton.specs.Bytes.{words_of, bytes_of}

twice_suc : (i : ℕ) → 2 * suc i ≡ suc (suc (2 * i))
twice_suc i = omega arith

twice_suc_one : (i : ℕ) → 2 * suc i + 1 ≡ suc (suc (2 * i + 1))
twice_suc_one i = omega arith

pub word_at : (s : List ℕ) (i : ℕ) → 2 * i + 1 < length s → get_or s (2 * i) 0 * 256 + get_or s (2 * i + 1) 0 ≡ get_or (words_of s) i 0
unfolding words_of
word_at [] i h = absurd (not-suc-le-zero h)
word_at (x ∷ []) i h = absurd (no i h)
  where
    no : (i : ℕ) → 2 * i + 1 < 1 → ⊥
    no i h = omega arith
word_at (x ∷ (y ∷ s)) zero h = refl
word_at (x ∷ (y ∷ s)) (suc i) h =
    ap₂ (λ (a b : ℕ). get_or (x ∷ (y ∷ s)) a 0 * 256 + get_or (x ∷ (y ∷ s)) b 0) (twice_suc i) (twice_suc_one i)
    ∙ word_at s i (less i (length s) h)
  where
    less : (i n : ℕ) → 2 * suc i + 1 < suc (suc n) → 2 * i + 1 < n
    less i n h = omega arith

pub word_past : (s : List ℕ) (i : ℕ) → length s ≤ 2 * i + 1 → 0 ≡ get_or (words_of s) i 0
unfolding words_of
word_past [] i h = refl
word_past (x ∷ []) i h = refl
word_past (x ∷ (y ∷ s)) zero h = absurd (no (length s) h)
  where
    no : (n : ℕ) → suc (suc n) ≤ 1 → ⊥
    no n h = omega arith
word_past (x ∷ (y ∷ s)) (suc i) h = word_past s i (less i (length s) h)
  where
    less : (i n : ℕ) → suc (suc n) ≤ 2 * suc i + 1 → n ≤ 2 * i + 1
    less i n h = omega arith

pub length_words : (s : List ℕ) → length s / 2 ≡ length (words_of s)
unfolding words_of
length_words [] = refl
length_words (x ∷ []) = refl
length_words (x ∷ (y ∷ s)) = half (length s) ∙ ap suc (length_words s)
  where
    half : (n : ℕ) → suc (suc n) / 2 ≡ suc (n / 2)
    half n = omega arith

-- a list of four, by its elements
pub by_four : (u : List ℕ) → length u ≡ 4 → get_or u 0 0 ∷ get_or u 1 0 ∷ get_or u 2 0 ∷ get_or u 3 0 ∷ [] ≡ u
by_four u e = ext_get_or 0 (get_or u 0 0 ∷ get_or u 1 0 ∷ get_or u 2 0 ∷ get_or u 3 0 ∷ []) u (sym e) (cases4 (λ (i : ℕ). get_or (get_or u 0 0 ∷ get_or u 1 0 ∷ get_or u 2 0 ∷ get_or u 3 0 ∷ []) i 0 ≡ get_or u i 0) refl refl refl refl)

pub four_words_lem : (b : List ℕ) → length b ≡ 8 → length (words_of b) ≡ 4
four_words_lem b e = sym (length_words b) ∙ ap (λ (n : ℕ). n / 2) e

-- a block written out, and its words
pub words_eight : (b : List ℕ) → length b ≡ 8
    → (get_or b 0 0 * 256 + get_or b 1 0) ∷ (get_or b 2 0 * 256 + get_or b 3 0) ∷ (get_or b 4 0 * 256 + get_or b 5 0) ∷ (get_or b 6 0 * 256 + get_or b 7 0) ∷ []
    ≡ words_of b
unfolding words_of
words_eight b e = ap words_of (sym (tab_all 8 b e))

-- four words written out, and their bytes
pub bytes_four : (a : List ℕ) → length a ≡ 4
    → get_or a 0 0 / 256 ∷ get_or a 0 0 % 256 ∷ get_or a 1 0 / 256 ∷ get_or a 1 0 % 256 ∷ get_or a 2 0 / 256 ∷ get_or a 2 0 % 256 ∷ get_or a 3 0 / 256 ∷ get_or a 3 0 % 256 ∷ []
    ≡ bytes_of a
unfolding bytes_of
bytes_four a e = ap bytes_of (by_four a e)

-- the same, from the two bytes of each word
pub bytes_pairs : (a : List ℕ) → length a ≡ 4 → {w x y z : List ℕ} → w ≡ get_or a 0 0 / 256 ∷ get_or a 0 0 % 256 ∷ [] → x ≡ get_or a 1 0 / 256 ∷ get_or a 1 0 % 256 ∷ []
    → y ≡ get_or a 2 0 / 256 ∷ get_or a 2 0 % 256 ∷ [] → z ≡ get_or a 3 0 / 256 ∷ get_or a 3 0 % 256 ∷ []
    → get_or w 0 0 ∷ get_or w 1 0 ∷ get_or x 0 0 ∷ get_or x 1 0 ∷ get_or y 0 0 ∷ get_or y 1 0 ∷ get_or z 0 0 ∷ get_or z 1 0 ∷ [] ≡ bytes_of a
bytes_pairs a n e₀ e₁ e₂ e₃ = rw (e₀, e₁, e₂, e₃) (bytes_four a n)

pub words_bytes : (u : List ℕ) → words_of (bytes_of u) ≡ u
unfolding words_of bytes_of
words_bytes [] = refl
words_bytes (w ∷ u) = λ i. div-add-mod' w 256 i ∷ words_bytes u i

pub bytes_words : {s : List ℕ} → Bytes s → length s % 2 ≡ 0 → bytes_of (words_of s) ≡ s
unfolding words_of bytes_of
bytes_words none e = refl
bytes_words (more h none) e = absurd (odd e)
  where
    odd : ◌≡◌ {A = ℕ} 1 0 → ⊥
    odd e = omega arith
bytes_words (more {x} h (more {x = y} {s = s} g t)) e =
    λ i. digits_div x g i ∷ digits_mod x g i ∷ bytes_words t (even (length s) e) i
  where
    even : (n : ℕ) → suc (suc n) % 2 ≡ 0 → n % 2 ≡ 0
    even n e = omega arith

pub words_of_lem : {s : List ℕ} → Bytes s → Words (words_of s)
unfolding words_of
words_of_lem none = words_nil
words_of_lem (more h none) = words_nil
words_of_lem (more {x} h (more {x = y} g t)) = words_cons (small x y h g) (words_of_lem t)
  where
    small : (x y : ℕ) → x < 256 → y < 256 → x * 256 + y < 65536
    small x y h g = omega arith
