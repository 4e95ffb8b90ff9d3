-- Parts of a list, and lists of which a part is replaced.
use mathlib.Core.Path.{◌≡◌, refl, sym, ap, ap₂, ◌∙◌}
use mathlib.Core.List.{List, [], ◌∷◌, ◌++◌, append_assoc, append-nil}
use Prim.Native.Nat.{ℕ, zero, suc, ◌+◌, ◌-◌, ◌≤◌, ◌<◌}
use native.Mathlib.Nat.{add-zero, sub-zero}
use native.Mathlib.Numerals.{add-one}
use native.Mathlib.Omega.{arith}
use lib.ListN.{length, get_or, take, drop, set, length-append, length-take, length-drop, take-append-drop, drop_of_length-le, get_or-append}
use lib.Seq.{set_split, drop-cons, drop-drop, take-nil, take-add, take_at, drop_at, take-take, length-take-le, take_all, take-append-le, drop-append-le, drop-append-add, get_or-take, get_or-drop}
use Rattle.octets.specs.Bytes.{part, put}

-- what is left of a list from a place within it
pub drop_next : (s : List ℕ) (i : ℕ) → i < length s → drop i s ≡ get_or s i 0 ∷ drop (i + 1) s
drop_next s i h = rw (add-one, drop-cons s i 0)

pub drop_take : (b n : ℕ) (s : List ℕ) → drop b (take n s) ≡ take (n - b) (drop b s)
drop_take zero n s = rw sub-zero
drop_take (suc b) zero s = let q : 0 - suc b ≡ 0 = omega arith in rw q
drop_take (suc b) (suc n) [] = sym (take-nil (suc n - suc b))
drop_take (suc b) (suc n) (x ∷ s) = let q : suc n - suc b ≡ n - b = omega arith in rw q (drop_take b n s)

-- parts

pub length_part : (s : List ℕ) (a n : ℕ) → a + n ≤ length s → length (part s a n) ≡ n
length_part s a n h = simp (length-take, length-drop) (omega arith)

pub get_or_part : (s : List ℕ) (a n i : ℕ) → i < n → get_or (part s a n) i 0 ≡ get_or s (a + i) 0
get_or_part s a n i h = get_or-take n (drop a s) i 0 h ∙ get_or-drop a s i 0

pub part_all : (s : List ℕ) (n : ℕ) → length s ≡ n → part s 0 n ≡ s
part_all s n h = take_all n s (omega arith)

pub part_add : (s : List ℕ) (a m n : ℕ) → part s a (m + n) ≡ part s a m ++ part s (a + m) n
part_add s a m n = rw (take-add m n (drop a s), drop-drop m a s)

pub part_part : (s : List ℕ) (a n b m : ℕ) → b + m ≤ n → part (part s a n) b m ≡ part s (a + b) m
part_part s a n b m h =
    let g : m ≤ n - b = omega arith in
    rw (drop_take b n (drop a s), take-take m (n - b) (drop b (drop a s)) g, drop-drop b a s)

pub split_part : (s : List ℕ) (a n : ℕ) → take a s ++ (part s a n ++ drop (a + n) s) ≡ s
split_part s a n = rw (← drop-drop n a s, take-append-drop n (drop a s)) (take-append-drop a s)

-- parts of two lists joined: of the first, of the second, the whole first, the whole second
pub part_append_left : (x y : List ℕ) (a n : ℕ) → a + n ≤ length x → part (x ++ y) a n ≡ part x a n
part_append_left x y a n h =
    let h₁ : a ≤ length x = omega arith in
    let h₂ : n ≤ length (drop a x) = simp length-drop (omega arith) in
    rw (drop-append-le a x y h₁, take-append-le n (drop a x) y h₂)

pub part_append_right : (x y : List ℕ) (a b n : ℕ) → length x + b ≡ a → part (x ++ y) a n ≡ part y b n
part_append_right x y a b n h = rw (← h, drop-append-add x y b)

pub part_append_head : (x y : List ℕ) (n : ℕ) → length x ≡ n → part (x ++ y) 0 n ≡ x
part_append_head x y n h = take_at x y n h

pub part_append_tail : (x y : List ℕ) (a n : ℕ) → length x ≡ a → length y ≡ n → part (x ++ y) a n ≡ y
part_append_tail x y a n h g = part_append_right x y a 0 n (omega arith) ∙ part_all y n g

-- a part that the code writes `s[a..a + n]`, and s when such a part comes back as ys
span : (a n : ℕ) → (a + n) - a ≡ n
span a n = omega arith

pub part_span : (s : List ℕ) (a n : ℕ) → take ((a + n) - a) (drop a s) ≡ part s a n
part_span s a n = rw (span a n)

pub length_span : (s : List ℕ) (a n : ℕ) → a + n ≤ length s → length (take ((a + n) - a) (drop a s)) ≡ n
length_span s a n h = ap length (part_span s a n) ∙ length_part s a n h

pub put_part : (s ys : List ℕ) (a n : ℕ) → length ys ≡ n → take a s ++ (ys ++ drop n (drop a s)) ≡ put s a ys
unfolding put
put_part s ys a n e = rw (drop-drop, e)

pub put_span : (s ys xs : List ℕ) (a n : ℕ) → ys ≡ xs → length xs ≡ n → take a s ++ (ys ++ drop ((a + n) - a) (drop a s)) ≡ put s a xs
put_span s ys xs a n e f = rw (span a n, e) (put_part s xs a n f)

-- a list of which a part is replaced: its length, what stands before the new part's end and after it, and its parts
module _ (s xs : List ℕ) (a : ℕ) (fits : a + length xs ≤ length s) where
  front : length (take a s) ≡ a
  front = length-take-le a s (omega arith)

  head_length : length (take a s ++ xs) ≡ a + length xs
  head_length = length-append (take a s) xs ∙ ap (λ (k : ℕ). k + length xs) front

  pub length_put : length (put s a xs) ≡ length s
  unfolding put
  length_put = simp (length-append, front, length-drop) (omega arith)

  pub take_put : take (a + length xs) (put s a xs) ≡ take a s ++ xs
  unfolding put
  take_put = rw (← append_assoc) (take_at (take a s ++ xs) (drop (a + length xs) s) (a + length xs) head_length)

  pub drop_put : drop (a + length xs) (put s a xs) ≡ drop (a + length xs) s
  unfolding put
  drop_put = rw (← append_assoc) (drop_at (take a s ++ xs) (drop (a + length xs) s) (a + length xs) head_length)

  pub part_put_before : (b n : ℕ) → b + n ≤ a → part (put s a xs) b n ≡ part s b n
  unfolding put
  part_put_before b n h =
      let g : b + n ≤ length (take a s) = omega (arith, front) in
      part_append_left (take a s) (xs ++ drop (a + length xs) s) b n g
      ∙ sym (part_append_left (take a s) (drop a s) b n g)
      ∙ ap (λ (l : List ℕ). part l b n) (take-append-drop a s)

  after : (b : ℕ) → a + length xs ≤ b → drop b (put s a xs) ≡ drop b s
  after b h =
      let q : a + length xs + (b - (a + length xs)) ≡ b = omega arith in
      let d : (l : List ℕ) → drop (b - (a + length xs)) (drop (a + length xs) l) ≡ drop b l = λ l. drop-drop (b - (a + length xs)) (a + length xs) l ∙ ap (λ (k : ℕ). drop k l) q in
      sym (d (put s a xs)) ∙ ap (drop (b - (a + length xs))) drop_put ∙ d s

  pub part_put_after : (b n : ℕ) → a + length xs ≤ b → part (put s a xs) b n ≡ part s b n
  part_put_after b n h = ap (take n) (after b h)

  from_put : drop a (put s a xs) ≡ xs ++ drop (a + length xs) s
  unfolding put
  from_put = drop_at (take a s) (xs ++ drop (a + length xs) s) a front

  -- one element: before the new part, in it, after it
  pub get_or_put_before : (i : ℕ) → i < a → get_or (put s a xs) i 0 ≡ get_or s i 0
  unfolding put
  get_or_put_before i h = get_or-append (take a s) (xs ++ drop (a + length xs) s) 0 i (omega (arith, front)) ∙ get_or-take a s i 0 h

  pub get_or_put : (i : ℕ) → i < length xs → get_or (put s a xs) (a + i) 0 ≡ get_or xs i 0
  get_or_put i h =
      sym (get_or-drop a (put s a xs) i 0)
      ∙ ap (λ (l : List ℕ). get_or l i 0) from_put
      ∙ get_or-append xs (drop (a + length xs) s) 0 i h

  pub get_or_put_after : (i : ℕ) → a + length xs ≤ i → get_or (put s a xs) i 0 ≡ get_or s i 0
  get_or_put_after i h =
      let d : (l : List ℕ) → get_or (drop i l) 0 0 ≡ get_or l i 0 = λ l. get_or-drop i l 0 0 ∙ ap (λ (k : ℕ). get_or l k 0) (add-zero i) in
      sym (d (put s a xs)) ∙ ap (λ (l : List ℕ). get_or l 0 0) (after i h) ∙ d s

-- what was put can be read again
pub part_put : (s xs : List ℕ) (a n : ℕ) → length xs ≡ n → a + n ≤ length s → part (put s a xs) a n ≡ xs
part_put s xs a n e h = rw (from_put s xs a (omega arith)) (take_at xs (drop (a + length xs) s) n e)

-- two puts side by side are one; of two at one place the second stays; what stands there already, and a whole list
pub put_put : (s xs ys : List ℕ) (a : ℕ) → a + length xs + length ys ≤ length s → put (put s a xs) (a + length xs) ys ≡ put s a (xs ++ ys)
unfolding put
put_put s xs ys a h =
    let q : a + length xs + length ys ≡ a + (length xs + length ys) = omega arith in
    ap (λ l. l ++ (ys ++ drop (a + length xs + length ys) (put s a xs))) (take_put s xs a (omega arith))
    ∙ rw (after s xs a (omega arith) (a + length xs + length ys) (omega arith), append_assoc, append_assoc, length-append, q)

pub put_over : (s xs ys : List ℕ) (a : ℕ) → length xs ≡ length ys → a + length xs ≤ length s → put (put s a xs) a ys ≡ put s a ys
unfolding put
put_over s xs ys a e h =
    let t : take a (put s a xs) ≡ take a s = part_put_before s xs a h 0 a (omega arith) in
    ap (λ l. l ++ (ys ++ drop (a + length ys) (put s a xs))) t
    ∙ rw (after s xs a h (a + length ys) (omega arith))

pub put_self : (s : List ℕ) (a n : ℕ) → a + n ≤ length s → put s a (part s a n) ≡ s
unfolding put
put_self s a n h = rw (length_part s a n h) (split_part s a n)

pub put_all : (s xs : List ℕ) → length xs ≡ length s → put s 0 xs ≡ xs
unfolding put
put_all s xs e =
    let g : length s ≤ 0 + length xs = omega arith in
    rw (drop_of_length-le s g, append-nil)

-- two puts apart from each other change places
pub put_comm : (s xs ys : List ℕ) (a b : ℕ) → a + length xs ≤ b → b + length ys ≤ length s → put (put s a xs) b ys ≡ put (put s b ys) a xs
unfolding put
put_comm s xs ys a b h g =
    let m : ℕ = a + length xs in
    let rest : List ℕ = ys ++ drop (b + length ys) s in
    let r : m + (b - m) ≡ b = omega arith in
    let before : take b (put s a xs) ≡ (take a s ++ xs) ++ part s m (b - m) =
    ap (λ (k : ℕ). take k (put s a xs)) (sym r) ∙ take-add m (b - m) (put s a xs) ∙ ap₂ (λ (u v : List ℕ). u ++ take (b - m) v) (take_put s xs a (omega arith)) (drop_put s xs a (omega arith)) in
    let behind : drop m (put s b ys) ≡ part s m (b - m) ++ rest =
    drop-append-le m (take b s) rest (omega (arith, length-take-le b s (omega arith))) ∙ ap (λ (u : List ℕ). u ++ rest) (drop_take m b s) in
    ap₂ (λ (u v : List ℕ). u ++ (ys ++ v)) before (after s xs a (omega arith) (b + length ys) (omega arith))
    ∙ append_assoc (take a s ++ xs) (part s m (b - m)) rest
    ∙ append_assoc (take a s) xs (part s m (b - m) ++ rest)
    ∙ sym (ap₂ (λ (u v : List ℕ). u ++ (xs ++ v)) (part_put_before s ys b g 0 a (omega arith)) behind)

-- one element stored
pub set_put : (s : List ℕ) (i v : ℕ) → i < length s → set s i v ≡ put s i (v ∷ [])
unfolding put
set_put s i v h = rw add-one (set_split s i v h)

-- n elements of s from place a, written out: at a numeral n this computes to the list of the elements
abbrev pub tab : ℕ → ℕ → List ℕ → List ℕ
tab zero a s = []
tab (suc n) a s = get_or s a 0 ∷ tab n (suc a) s

pub tab_part : (n a : ℕ) (s : List ℕ) → a + n ≤ length s → tab n a s ≡ part s a n
tab_part zero a s h = refl
tab_part (suc n) a s h = rw (drop-cons s a 0 (omega arith)) (ap (λ l. get_or s a 0 ∷ l) (tab_part n (suc a) s (omega arith)))

pub tab_all : (n : ℕ) (s : List ℕ) → length s ≡ n → s ≡ tab n 0 s
tab_all n s e = sym (tab_part n 0 s (omega arith) ∙ take_all n s (omega arith))
