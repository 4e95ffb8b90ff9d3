-- The backward register after r steps back is the forward one at round 12 - r, and the round keys follow.
use mathlib.Core.Path.{◌≡◌, refl, sym, ap, ap₂, ◌∙◌, subst}
use mathlib.Core.List.{List, [], ◌∷◌}
use Prim.Native.Nat.{ℕ, zero, suc, ◌+◌, ◌-◌, ◌≤◌, ◌<◌}
use native.Mathlib.Omega.{arith}
use native.Mathlib.Numerals.{add-one}
use native.Mathlib.Nat.{le_of_suc-le}
use lib.ListN.{get_or, length, get_or-eq_default}
use lib.Bits.{xor_lt}
use lib.Dec.{lit<, ltb, ltb→lt}
use Rattle.octets.proofs.Test.{below}
use Rattle.rounds.specs.Array.{Block, words, φ}
use Rattle.rounds.proofs.Xor4.{cases4}
use Rattle.rounds.proofs.Blocks.{nibble_lt}
use Rattle.rounds.specs.Word.{rotate}
use Rattle.schedule.specs.Schedule.{Count, four, six, eight, Words, Key, by_count, forward4, forward6, forward8, forward_words, forward, backward4, backward6, backward8, backward_words, backward, eight_words, start, start4, start6, start8, start_words, back_start, times, register, back_register, constants, kept, last_word, round_key, encryption_key, decryption_key}
use Rattle.schedule.specs.declared.Register.{Register}
use Rattle.rounds.proofs.Rotation.{rotate_add, rotate16, rotate_lt}

pub words_nil : Words []
words_nil = record { at = λ j. lit< tt }

pub words_cons : {x : ℕ} {u : List ℕ} → x < 65536 → Words u → Words (x ∷ u)
words_cons {x} {u} h f = record { at = go }
  where
    go : (j : ℕ) → get_or (x ∷ u) j 0 < 65536
    go zero = h
    go (suc j) = f.at j

wrap : (k : ℕ) {w : ℕ} → w < 65536 → rotate (k + 16) w ≡ rotate k w
wrap k {w} h = sym (rotate_add k 16 w) ∙ ap (rotate k) (rotate16 h)

-- the words of a register of t words: zeros past the t-th
trim4 : List ℕ → List ℕ
trim4 u = get_or u 0 0 ∷ get_or u 1 0 ∷ get_or u 2 0 ∷ get_or u 3 0 ∷ 0 ∷ 0 ∷ 0 ∷ 0 ∷ []

trim6 : List ℕ → List ℕ
trim6 u = get_or u 0 0 ∷ get_or u 1 0 ∷ get_or u 2 0 ∷ get_or u 3 0 ∷ get_or u 4 0 ∷ get_or u 5 0 ∷ 0 ∷ 0 ∷ []

trim8 : List ℕ → List ℕ
trim8 u = get_or u 0 0 ∷ get_or u 1 0 ∷ get_or u 2 0 ∷ get_or u 3 0 ∷ get_or u 4 0 ∷ get_or u 5 0 ∷ get_or u 6 0 ∷ get_or u 7 0 ∷ []

turn4 : (u : List ℕ) → times 12 forward4 u ≡ start4 u
unfolding times forward4 start4
turn4 u = simp rotate_add

turn6 : (u : List ℕ) → Words u → times 12 forward6 u ≡ start6 u
unfolding times forward6 start6
turn6 u f = simp (rotate_add, wrap 6, f.at)

turn8 : (u : List ℕ) → Words u → times 12 forward8 u ≡ start8 u
unfolding times forward8 start8
turn8 u f = simp (rotate_add, wrap 3, f.at)

undo4 : (u : List ℕ) → Words u → backward4 (forward4 u) ≡ trim4 u
unfolding backward4 forward4 trim4
undo4 u f = simp (rotate_add, rotate16, f.at)

undo6 : (u : List ℕ) → Words u → backward6 (forward6 u) ≡ trim6 u
unfolding backward6 forward6 trim6
undo6 u f = simp (rotate_add, rotate16, f.at)

undo8 : (u : List ℕ) → Words u → backward8 (forward8 u) ≡ trim8 u
unfolding backward8 forward8 trim8
undo8 u f = simp (rotate_add, rotate16, f.at)

zero_word : 0 < 65536
zero_word = lit< tt

trim : ℕ → List ℕ → List ℕ
trim t u = by_count t (trim4 u) (trim6 u) (trim8 u)

turn : {t : ℕ} (u : List ℕ) → Count t → Words u → times 12 (forward_words t) u ≡ start_words t u
unfolding forward_words start_words by_count
turn u four f = turn4 u
turn u six f = turn6 u f
turn u eight f = turn8 u f

undo : {t : ℕ} (u : List ℕ) → Count t → Words u → backward_words t (forward_words t u) ≡ trim t u
unfolding forward_words backward_words trim by_count
undo u four f = undo4 u f
undo u six f = undo6 u f
undo u eight f = undo8 u f

trim_forward : {t : ℕ} (u : List ℕ) → Count t → trim t (forward_words t u) ≡ forward_words t u
unfolding forward_words trim trim4 trim6 trim8 forward4 forward6 forward8 by_count
trim_forward u four = refl
trim_forward u six = refl
trim_forward u eight = refl

forward_words_lem : {t : ℕ} (u : List ℕ) → Count t → Words u → Words (forward_words t u)
unfolding forward_words forward4 forward6 forward8 by_count
forward_words_lem u c f = go c
  where
    w : (j : ℕ) → get_or u j 0 < 65536
    w = f.at

    go : {t : ℕ} → Count t → Words (forward_words t u)
    go four = search (words_nil, words_cons, w, rotate_lt, zero_word) depth 20
    go six = search (words_nil, words_cons, w, rotate_lt, zero_word) depth 20
    go eight = search (words_nil, words_cons, w, rotate_lt) depth 20

record_path : {u v : List ℕ} {t m n : ℕ} → u ≡ v → m ≡ n
    → ◌≡◌ {A = Register} (record { words = u; count = t; round = m }) (record { words = v; count = t; round = n })
record_path {t = t} p q = ap₂ {C = Register} (λ u m. record { words = u; count = t; round = m }) p q

pub start_words_lem : (k : List ℕ) → Words k → Words (start k).words
unfolding start eight_words
start_words_lem k f = search (words_nil, words_cons, w) depth 20
  where
    w : (j : ℕ) → get_or k j 0 < 65536
    w = f.at

-- the register at round n, by its fields
pub at_round : (k : List ℕ) (n : ℕ)
    → register k n ≡ record { words = times n (forward_words (length k)) (start k).words; count = length k; round = n }
unfolding register times
at_round k zero = unfold start in refl
at_round k (suc n) = ap forward (at_round k n) ∙ (unfold forward in record_path refl (add-one n))

past : (k : List ℕ) (n : ℕ) → length k ≤ n → 0 ≡ get_or k n 0
past k n h = sym (get_or-eq_default k 0 {n = n} h)

trim_start : {t : ℕ} (k : List ℕ) → Count t → length k ≡ t → trim t (start k).words ≡ (start k).words
unfolding trim trim4 trim6 trim8 start eight_words by_count
trim_start k four e = cc (past k 4 (omega arith), past k 5 (omega arith), past k 6 (omega arith), past k 7 (omega arith))
trim_start k six e = cc (past k 6 (omega arith), past k 7 (omega arith))
trim_start k eight e = refl

module _ (k : List ℕ) (c : Count (length k)) (f : Words k) where
  pub register_words : (n : ℕ) → Words (times n (forward_words (length k)) (start k).words)
  unfolding times
  register_words zero = start_words_lem k f
  register_words (suc n) = forward_words_lem _ c (register_words n)

  pub whole_turn : register k 12 ≡ back_start (start k)
  whole_turn = at_round k 12 ∙ (unfold back_start start in record_path (turn _ c (start_words_lem k f)) refl)

  trimmed : (n : ℕ) → trim (length k) (times n (forward_words (length k)) (start k).words) ≡ times n (forward_words (length k)) (start k).words
  unfolding times
  trimmed zero = trim_start k c refl
  trimmed (suc n) = trim_forward _ c

  pub back_one : (n : ℕ) → backward (register k (suc n)) ≡ register k n
  unfolding backward times
  back_one n =
      ap backward (at_round k (suc n))
      ∙ record_path (undo _ c (register_words n) ∙ trimmed n) (omega arith)
      ∙ sym (at_round k n)

  pub backwards : (r : ℕ) → r ≤ 12 → back_register k r ≡ register k (12 - r)
  unfolding back_register times
  backwards zero h = sym whole_turn
  backwards (suc r) h =
      ap backward (backwards r (le_of_suc-le h) ∙ ap (register k) less) ∙ back_one (12 - suc r)
    where
      less : 12 - r ≡ suc (12 - suc r)
      less = omega arith

-- ---- round keys

pub constant_lt : (r : ℕ) → r < 13 → get_or constants r 0 < 16
unfolding constants
constant_lt r h = ltb→lt (get_or constants r 0) 16 (below 13 (λ r. ltb (get_or constants r 0) 16) tt r h)

kept_lt : (w i : ℕ) → i < 4 → kept w i < 65536
kept_lt w =
    cases4 (λ (i : ℕ). kept w i < 65536) (omega (arith, nibble_lt w 0)) (omega (arith, nibble_lt w 1)) (omega (arith, nibble_lt w 2))
    (omega (arith, nibble_lt w 3))

pub block_round_key : (u : Register) → Words u.words → Block (round_key u)
unfolding round_key last_word
block_round_key u f =
    words (xor_lt 16 _ _ (f.at 1) (kept_lt _ 0 (lit< tt))) (xor_lt 16 _ _ (f.at 2) (kept_lt _ 1 (lit< tt)))
    (xor_lt 16 _ _ (f.at 3) (kept_lt _ 2 (lit< tt))) (xor_lt 16 _ _ (f.at _) (kept_lt _ 3 (lit< tt)))

module _ (k : List ℕ) (h : Key k) where
  pub block_encryption_key : (r : ℕ) → Block (encryption_key k r)
  unfolding encryption_key
  block_encryption_key r =
      subst (λ (u : Register). Block (round_key u)) (sym (at_round k r)) (block_round_key _ (register_words k h.count h.words r))

  -- decryption key r is φ of encryption key 12 - r
  pub key_back : (r : ℕ) → r ≤ 12 → decryption_key k r ≡ φ (encryption_key k (12 - r))
  unfolding decryption_key encryption_key
  key_back r l = ap (λ (u : Register). φ (round_key u)) (backwards k h.count h.words r l)
