-- Laws of counter mode: a panel is added to its key blocks, one after the other, as far as it goes. The rest follows from that.
use Rattle.std.proofs.Common.{◌≡◌, ℕ, zero, suc, ◌+◌, ◌-◌, ◌*◌, ◌/◌, ◌%◌, ◌^◌, ◌<◌, ◌≤◌, List, [], ◌∷◌, ◌++◌, length, get_or, take, drop, sym, refl, ap, ◌∙◌, subst, ap₂, append_assoc, append-nil, add-zero, add-suc, zero-add, arith, length-append, length-drop, take-append-drop, length-take-le, take_all, get_or-append-add}
use native.Mathlib.Decide.{dec_lt}
use lib.Bits.{bit_xor}
use lib.ListN.{get_or-append}
use Rattle.octets.specs.Bytes.{Bytes, none, be, part}
use Rattle.octets.proofs.EveryByte.{append_bytes}
use Rattle.octets.proofs.Parts.{part_add}
use Rattle.octets.proofs.Xor.{xor_cancel}
use Rattle.modes.specs.Xor.{xor_bytes}
use Rattle.modes.proofs.Xor.{xor_bytes_lem}
use Rattle.panels.specs.Ctr.{T, O, C, joined, ctr}

-- ---- bytes added as far as the shorter goes

pub length_xor : (x y : List ℕ) → length x ≤ length y → length (xor_bytes x y) ≡ length x
unfolding xor_bytes
length_xor [] y h = refl
length_xor (a ∷ x) [] h = absurd (omega arith)
length_xor (a ∷ x) (b ∷ y) h = ap suc (length_xor x y (omega arith))

xor_xor : (x y : List ℕ) → length x ≤ length y → xor_bytes (xor_bytes x y) y ≡ x
unfolding xor_bytes
xor_xor [] y h = refl
xor_xor (a ∷ x) [] h = absurd (omega arith)
xor_xor (a ∷ x) (b ∷ y) h = ap₂ (λ (z : ℕ) (s : List ℕ). z ∷ s) (xor_cancel a b) (xor_xor x y (omega arith))

pub get_or_xor : (x y : List ℕ) (i : ℕ) → i < length x → i < length y → get_or (xor_bytes x y) i 0 ≡ bit_xor (get_or x i 0) (get_or y i 0)
unfolding xor_bytes
get_or_xor [] y i h g = absurd (omega arith)
get_or_xor (a ∷ x) [] i h g = absurd (omega arith)
get_or_xor (a ∷ x) (b ∷ y) zero h g = refl
get_or_xor (a ∷ x) (b ∷ y) (suc i) h g = get_or_xor x y i (omega arith) (omega arith)

xor_append : (x y u v : List ℕ) → length x ≡ length u → xor_bytes (x ++ y) (u ++ v) ≡ xor_bytes x u ++ xor_bytes y v
unfolding xor_bytes
xor_append [] y [] v h = refl
xor_append [] y (b ∷ u) v h = absurd (omega arith)
xor_append (a ∷ x) y [] v h = absurd (omega arith)
xor_append (a ∷ x) y (b ∷ u) v h = ap (λ (s : List ℕ). bit_xor a b ∷ s) (xor_append x y u v (omega arith))

pub xor_take : (n : ℕ) (x y : List ℕ) → length x ≤ n → xor_bytes x (take n y) ≡ xor_bytes x y
unfolding xor_bytes
xor_take n [] y h = refl
xor_take zero (a ∷ x) y h = absurd (omega arith)
xor_take (suc n) (a ∷ x) [] h = refl
xor_take (suc n) (a ∷ x) (b ∷ y) h = ap (λ (s : List ℕ). bit_xor a b ∷ s) (xor_take n x y (omega arith))

-- ---- blocks, one after the other

pub joined_same : (f g : ℕ → List ℕ) (n : ℕ) → ((i : ℕ) → i < n → f i ≡ g i) → joined f n ≡ joined g n
unfolding joined
joined_same f g zero h = refl
joined_same f g (suc n) h = ap₂ ◌++◌ (joined_same f g n (λ i l. h i (omega arith))) (h n (omega arith))

joined_add : (f : ℕ → List ℕ) (m n : ℕ) → joined f (m + n) ≡ joined f m ++ joined (λ i. f (m + i)) n
unfolding joined
joined_add f m zero = rw (add-zero m, append-nil)
joined_add f m (suc n) = rw (add-suc m n) (ap (λ (s : List ℕ). s ++ f (m + n)) (joined_add f m n) ∙ append_assoc (joined f m) (joined (λ i. f (m + i)) n) (f (m + n)))

joined_bytes : (f : ℕ → List ℕ) (n : ℕ) → ((i : ℕ) → Bytes (f i)) → Bytes (joined f n)
unfolding joined
joined_bytes f zero h = none
joined_bytes f (suc n) h = append_bytes (joined_bytes f n h) (h n)

module _ (f : ℕ → List ℕ) (eight : (i : ℕ) → length (f i) ≡ 8) where
  pub length_joined : (n : ℕ) → length (joined f n) ≡ 8 * n
  unfolding joined
  length_joined zero = refl
  length_joined (suc n) = length-append (joined f n) (f n) ∙ omega (arith, length_joined n, eight n)

  get_or_joined : (n i : ℕ) → i < 8 * n → get_or (joined f n) i 0 ≡ get_or (f (i / 8)) (i % 8) 0
  unfolding joined
  get_or_joined zero i h = absurd (omega arith)
  get_or_joined (suc n) i h = go (dec_lt i (8 * n)) (get_or_joined n i)
    where
      go : Dec (i < 8 * n) → (i < 8 * n → get_or (joined f n) i 0 ≡ get_or (f (i / 8)) (i % 8) 0) → get_or (joined f n ++ f n) i 0 ≡ get_or (f (i / 8)) (i % 8) 0
      go (yes l) r = get_or-append (joined f n) (f n) 0 i (omega (arith, length_joined n)) ∙ r l
      go (no l) r =
          let q : i ≡ length (joined f n) + (i - 8 * n) = omega (arith, length_joined n) in
          let d : n ≡ i / 8 = omega arith in
          let m : i - 8 * n ≡ i % 8 = omega arith in
          ap (λ (k : ℕ). get_or (joined f n ++ f n) k 0) q
          ∙ get_or-append-add (joined f n) (f n) (i - 8 * n) 0
          ∙ ap₂ (λ (j k : ℕ). get_or (f j) k 0) d m

-- ---- counter blocks

pub T_same : (x y : ℕ) → x % 2 ^ 64 ≡ y % 2 ^ 64 → T x ≡ T y
unfolding T
T_same x y e = ap (be 8) e

-- ---- the mode, over any function that makes 8 bytes of a counter block

module _ (E : List ℕ → List ℕ) where
  -- the counter may wrap before or after
  pub ctr_wraps : (x y : ℕ) (p : List ℕ) → x ≡ y % 2 ^ 64 → ctr E x p ≡ ctr E y p
  unfolding ctr C O
  ctr_wraps x y p e =
      joined_same (C E x p) (C E y p) ((length p + 7) / 8)
      (λ i l. ap (λ (t : List ℕ). xor_bytes (part p (8 * i) 8) (E t)) (T_same (x + i) (y + i) (omega (arith, e))))

module _ (E : List ℕ → List ℕ) (eight : (x : ℕ) → length (E (T x)) ≡ 8) where
  eight_O : (first i : ℕ) → length (O E first i) ≡ 8
  unfolding O
  eight_O first i = eight (first + i)

  stream_length : (first n : ℕ) → length (joined (O E first) n) ≡ 8 * n
  stream_length first = length_joined (O E first) (eight_O first)

  blocks : (first : ℕ) (p : List ℕ) (n : ℕ) → 8 * n < length p + 8 → xor_bytes (take (8 * n) p) (joined (O E first) n) ≡ joined (C E first p) n
  unfolding joined C xor_bytes
  blocks first p zero h = refl
  blocks first p (suc n) h =
      let q : 8 * suc n ≡ 8 * n + 8 = omega arith in
      let l : length (take (8 * n) p) ≡ length (joined (O E first) n) = length-take-le (8 * n) p (omega arith) ∙ sym (stream_length first n) in
      rw (q, part_add p 0 (8 * n) 8, zero-add (8 * n))
      (xor_append (take (8 * n) p) (part p (8 * n) 8) (joined (O E first) n) (O E first n) l ∙ ap (λ (s : List ℕ). s ++ C E first p n) (blocks first p n (omega arith)))

  -- O_0 ‖ O_1 ‖ …, as many as the panel has blocks
  abbrev pub stream : ℕ → List ℕ → List ℕ
  stream first p = joined (O E first) ((length p + 7) / 8)

  pub ctr_stream : (first : ℕ) (p : List ℕ) → ctr E first p ≡ xor_bytes p (stream first p)
  unfolding ctr
  ctr_stream first p =
      let n : ℕ = (length p + 7) / 8 in
      sym (blocks first p n (omega arith)) ∙ ap (λ (s : List ℕ). xor_bytes s (joined (O E first) n)) (take_all (8 * n) p (omega arith))

  -- of at most one block
  pub ctr_block : (first : ℕ) (p : List ℕ) → length p ≤ 8 → ctr E first p ≡ xor_bytes p (E (T first))
  unfolding ctr joined O xor_bytes
  ctr_block first [] l = refl
  ctr_block first (x ∷ p) l =
      let n : (length (x ∷ p) + 7) / 8 ≡ 1 = omega arith in
      ctr_stream first (x ∷ p) ∙ ap (λ (m : ℕ). xor_bytes (x ∷ p) (joined (O E first) m)) n ∙ ap (λ (m : ℕ). xor_bytes (x ∷ p) (E (T m))) (add-zero first)

  enough : (first : ℕ) (p : List ℕ) → length p ≤ length (stream first p)
  enough first p = omega (arith, stream_length first ((length p + 7) / 8))

  pub ctr_bytes : (first : ℕ) (p : List ℕ) → ((x : ℕ) → Bytes (E (T x))) → Bytes p → Bytes (ctr E first p)
  ctr_bytes first p e b = subst Bytes (sym (ctr_stream first p)) (xor_bytes_lem b (joined_bytes (O E first) ((length p + 7) / 8) (λ i. unfold O in e (first + i))))

  pub size : (first : ℕ) (p : List ℕ) → length (ctr E first p) ≡ length p
  size first p = ap length (ctr_stream first p) ∙ length_xor p (stream first p) (enough first p)

  pub byte : (first : ℕ) (p : List ℕ) (i : ℕ) → i < length p → get_or (ctr E first p) i 0 ≡ bit_xor (get_or p i 0) (get_or (O E first (i / 8)) (i % 8) 0)
  byte first p i h =
      let l : i < 8 * ((length p + 7) / 8) = omega (arith, enough first p, stream_length first ((length p + 7) / 8)) in
      ap (λ (s : List ℕ). get_or s i 0) (ctr_stream first p)
      ∙ get_or_xor p (stream first p) i h (omega (arith, enough first p))
      ∙ ap (bit_xor (get_or p i 0)) (get_or_joined (O E first) (eight_O first) ((length p + 7) / 8) i l)

  pub twice : (first : ℕ) (p : List ℕ) → ctr E first (ctr E first p) ≡ p
  twice first p =
      ctr_stream first (ctr E first p)
      ∙ ap₂ (λ (s : List ℕ) (n : ℕ). xor_bytes s (joined (O E first) ((n + 7) / 8))) (ctr_stream first p) (size first p)
      ∙ xor_xor p (stream first p) (enough first p)

  later : (first m j n : ℕ) → j ≡ m → joined (λ i. O E first (j + i)) n ≡ joined (O E (first + m)) n
  unfolding O
  later first m j n e = joined_same _ _ n (λ i l. ap (λ (z : ℕ). E (T z)) {x = first + (j + i)} {y = first + m + i} (omega (arith, e)))

  -- m whole blocks, and what follows them from the counter after them
  pub split : (m first : ℕ) (p : List ℕ) → 8 * m ≤ length p → ctr E first p ≡ ctr E first (take (8 * m) p) ++ ctr E (first + m) (drop (8 * m) p)
  split m first p h =
      let x : List ℕ = take (8 * m) p in
      let y : List ℕ = drop (8 * m) p in
      let lx : length (take (8 * m) p) ≡ 8 * m = length-take-le (8 * m) p h in
      let n : (length p + 7) / 8 ≡ (length (take (8 * m) p) + 7) / 8 + (length (drop (8 * m) p) + 7) / 8 = omega (arith, lx, length-drop (8 * m) p) in
      let k : (length (take (8 * m) p) + 7) / 8 ≡ m = omega (arith, lx) in
      ctr_stream first p
      ∙ ap₂ xor_bytes (sym (take-append-drop (8 * m) p)) (ap (joined (O E first)) n ∙ joined_add (O E first) ((length x + 7) / 8) ((length y + 7) / 8))
      ∙ xor_append x y _ _ (lx ∙ sym (stream_length first ((length x + 7) / 8) ∙ ap (λ (j : ℕ). 8 * j) k))
      ∙ ap₂ ◌++◌ (sym (ctr_stream first x)) (ap (xor_bytes y) (later first m ((length x + 7) / 8) ((length y + 7) / 8) k) ∙ sym (ctr_stream (first + m) y))
