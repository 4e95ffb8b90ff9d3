-- A function on each entry of a list, one after the other: what remains to be done.
use mathlib.Core.Path.{◌≡◌, refl, ap₂}
use mathlib.Core.List.{List, [], ◌∷◌, ◌++◌, map, append_assoc, append-nil}
use Prim.Native.Nat.{ℕ, zero, suc, ◌+◌, ◌≤◌, ◌<◌}
use native.Mathlib.Numerals.{add-one}
use native.Mathlib.Omega.{arith}
use lib.ListN.{get_or, length, set, take, drop, drop_of_length-le}
use lib.Seq.{take_all, drop-cons, drop-set-lt, take-suc-set}

-- d is what reading past the end gives
module _ {A B : Type 0} (d : A) (f : A → B) where
  -- f is done on the first i entries, which are those of s; the others are still to be taken from b
  pub each : ℕ → List B → List A → List B
  each i s b = take i s ++ map f (drop i b)

  pub each_none : (s : List B) (b : List A) → each 0 s b ≡ map f b
  unfolding each
  each_none s b = refl

  -- into another list
  pub each_next : (i : ℕ) (s : List B) (b : List A) {y : B} → i < length s → i < length b → y ≡ f (get_or b i d) → each (i + 1) (set s i y) b ≡ each i s b
  unfolding each
  each_next i s b {y} h l e = rw (add-one, take-suc-set s i y, drop-cons b i d, e, append_assoc)

  pub each_all : (i : ℕ) (s : List B) (b : List A) → length s ≤ i → length b ≤ i → each i s b ≡ s
  unfolding each
  each_all i s b h l = rw (take_all i s, drop_of_length-le b) (append-nil s)

-- in place
pub each_here : {A : Type 0} (d : A) (f : A → A) (i : ℕ) (s : List A) {y : A} → i < length s → y ≡ f (get_or s i d) → each d f (i + 1) (set s i y) (set s i y) ≡ each d f i s s
unfolding each
each_here d f i s {y} h e = rw (add-one, drop-set-lt (suc i) s i y (omega arith), ← add-one) (each_next d f i s s h h e)

pub map_same : {A B : Type 0} (f g : A → B) → ((x : A) → f x ≡ g x) → (l : List A) → map f l ≡ map g l
map_same f g e [] = refl
map_same {A} {B} f g e (x ∷ l) = ap₂ (λ (y : B) (m : List B). y ∷ m) (e x) (map_same f g e l)

pub map_at : {A B : Type 0} (d : A) (e : B) (f : A → B) (b : List A) (i : ℕ) → i < length b → get_or (map f b) i e ≡ f (get_or b i d)
map_at d e f [] i h = absurd (omega arith)
map_at d e f (x ∷ b) zero h = refl
map_at d e f (x ∷ b) (suc i) h = map_at d e f b i (omega arith)
