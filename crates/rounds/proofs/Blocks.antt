-- The laws of the nibble array and of γ, π, τ, σ and φ.
use mathlib.Core.Path.{◌≡◌, refl, sym, ap, ap₂, ◌∙◌}
use mathlib.Core.List.{List, [], ◌∷◌}
use Prim.Native.Nat.{ℕ, ◌+◌, ◌*◌, ◌-◌, ◌/◌, ◌%◌, ◌^◌, ◌<◌}
use native.Mathlib.Nat.{add_comm, mod-eq_of_lt, div-one, div-add-mod', lt_of_le_of_lt}
use native.Mathlib.Omega.{arith}
use lib.Bits.{bit_and, bit_xor, xor_shr, xor_mod, xor_lt, and_le_l, xor_zero_r}
use lib.Pow.{shr-shr}
use lib.Dec.{lit<, eqb, ltb, ltb→lt}
use lib.ListN.{get_or}
use Rattle.rounds.specs.Word.{row, nibble, xor4}
use Rattle.octets.specs.Bytes.{if◌then◌otherwise◌}
use Rattle.rounds.specs.Array.{Block, words, array, cell, sboxes, sbox, offset, opposite, mask, γ, π, τ, σ, φ, nibble_round}
use Rattle.rounds.specs.declared.Direction.{Direction}
use Rattle.rounds.specs.declared.Direction.TheVariants.{Encrypt, Decrypt}
use Rattle.octets.proofs.Test.{below2, agree2, agree4}
use Rattle.octets.proofs.Xor.{and_xor, xor_cancel}
use Rattle.rounds.proofs.Xor4.{cases4, xor4_ext, xor4_xor, and_xor4, xor4_transpose}

pub nibble_lt : (w i : ℕ) → nibble w i < 16
nibble_lt w i = omega arith

pub cell_lt : (a : List ℕ) (j i : ℕ) → cell a j i < 16
cell_lt a j i = nibble_lt (get_or a j 0) i

pub row_lt : (f : ℕ → ℕ) → ((i : ℕ) → f i < 16) → row f < 65536
row_lt f h = omega (arith, h 0, h 1, h 2, h 3)

pub nibble_row : (f : ℕ → ℕ) → ((i : ℕ) → f i < 16) → (i : ℕ) → i < 4 → nibble (row f) i ≡ f i
nibble_row f h =
    cases4 (λ (i : ℕ). nibble (row f) i ≡ f i) (omega (arith, h 0, h 1, h 2, h 3)) (omega (arith, h 0, h 1, h 2, h 3))
    (omega (arith, h 0, h 1, h 2, h 3)) (omega (arith, h 0, h 1, h 2, h 3))

up : (w k : ℕ) → w / 2 ^ (k + 4) * 16 + w / 2 ^ k % 16 ≡ w / 2 ^ k
up w k = ap (λ (x : ℕ). x * 16 + w / 2 ^ k % 16) (sym (shr-shr w k 4)) ∙ div-add-mod' (w / 2 ^ k) 16

pub row_nibble : (w : ℕ) → w < 65536 → row (nibble w) ≡ w
row_nibble w h =
    let top : w / 4096 % 16 ≡ w / 4096 = mod-eq_of_lt (omega arith) in
    rw (top, up w 8, up w 4, up w 0, div-one)

pub row_ext : {f g : ℕ → ℕ} → ((i : ℕ) → i < 4 → f i ≡ g i) → row f ≡ row g
row_ext e = omega (arith, e 0 (lit< tt), e 1 (lit< tt), e 2 (lit< tt), e 3 (lit< tt))

pub cell_array : (f : ℕ → ℕ → ℕ) → ((j i : ℕ) → f j i < 16) → (j i : ℕ) → j < 4 → i < 4 → cell (array f) j i ≡ f j i
cell_array f h j i hj hi =
    cases4 (λ (j : ℕ). nibble (get_or (row (f 0) ∷ row (f 1) ∷ row (f 2) ∷ row (f 3) ∷ []) j 0) i ≡ f j i)
    (nibble_row (f 0) (h 0) i hi) (nibble_row (f 1) (h 1) i hi) (nibble_row (f 2) (h 2) i hi) (nibble_row (f 3) (h 3) i hi) j hj

pub array_ext : {f g : ℕ → ℕ → ℕ} → ((j i : ℕ) → j < 4 → i < 4 → f j i ≡ g j i) → array f ≡ array g
array_ext {f} {g} e =
    λ i. r 0 (lit< tt) i ∷ r 1 (lit< tt) i ∷ r 2 (lit< tt) i ∷ r 3 (lit< tt) i ∷ []
  where
    r : (j : ℕ) → j < 4 → row (f j) ≡ row (g j)
    r j hj = row_ext (λ i hi. e j i hj hi)

-- its nibbles say all
whole : {a : List ℕ} → Block a → array (cell a) ≡ a
whole (words {a} {b} {c} {d} ha hb hc hd) = λ i. row_nibble a ha i ∷ row_nibble b hb i ∷ row_nibble c hc i ∷ row_nibble d hd i ∷ []

pub block_array : (f : ℕ → ℕ → ℕ) → ((j i : ℕ) → f j i < 16) → Block (array f)
block_array f h = words (row_lt (f 0) (h 0)) (row_lt (f 1) (h 1)) (row_lt (f 2) (h 2)) (row_lt (f 3) (h 3))

pub block_ext : {a b : List ℕ} → Block a → Block b → ((j i : ℕ) → j < 4 → i < 4 → cell a j i ≡ cell b j i) → a ≡ b
block_ext p q e = sym (whole p) ∙ array_ext e ∙ whole q

-- ---- the steps, nibble by nibble

pub sbox_lt : (s x : ℕ) → x < 16 → sbox s x < 16
unfolding sbox sboxes
sbox_lt s x h =
    ltb→lt _ 16 (below2 4 16 (λ s x. ltb (get_or (get_or sboxes s []) x 0) 16) tt (s % 4) x (omega arith) h)

pub mix_lt : (f : ℕ → ℕ) → ((k : ℕ) → f k < 16) → xor4 f < 16
mix_lt f h = xor_lt 4 _ _ (xor_lt 4 _ _ (h 0) (h 1)) (xor_lt 4 _ _ (h 2) (h 3))

pub masked_lt : (x m : ℕ) → x < 16 → bit_and x m < 16
masked_lt x m h = lt_of_le_of_lt (and_le_l x m) h

pub nibble_xor : (v w i : ℕ) → nibble (bit_xor v w) i ≡ bit_xor (nibble v i) (nibble w i)
nibble_xor v w i = ap (λ (x : ℕ). x % 16) (xor_shr v w (12 - 4 * i)) ∙ xor_mod (v / 2 ^ (12 - 4 * i)) (w / 2 ^ (12 - 4 * i)) 4

module _ (a : List ℕ) where
  pub block_γ : (d : Direction) → Block (γ d a)
  unfolding γ
  block_γ d = block_array _ (λ j i. sbox_lt (i + j + offset d) (cell a j i) (cell_lt a j i))

  pub block_π : Block (π a)
  unfolding π
  block_π = block_array _ (λ j i. mix_lt _ (λ k. masked_lt (cell a k i) (mask (i + j + k)) (cell_lt a k i)))

  pub block_τ : Block (τ a)
  unfolding τ
  block_τ = block_array _ (λ j i. cell_lt a i j)

  module _ (j i : ℕ) (hj : j < 4) (hi : i < 4) where
    pub cell_γ : (d : Direction) → cell (γ d a) j i ≡ sbox (i + j + offset d) (cell a j i)
    unfolding γ
    cell_γ d = cell_array _ (λ j i. sbox_lt (i + j + offset d) (cell a j i) (cell_lt a j i)) j i hj hi

    pub cell_π : cell (π a) j i ≡ xor4 (λ k. bit_and (cell a k i) (mask (i + j + k)))
    unfolding π
    cell_π = cell_array _ (λ j i. mix_lt _ (λ k. masked_lt (cell a k i) (mask (i + j + k)) (cell_lt a k i))) j i hj hi

    cell_τ : cell (τ a) j i ≡ cell a i j
    unfolding τ
    cell_τ = cell_array _ (λ j i. cell_lt a i j) j i hj hi

    cell_σ : (k : List ℕ) → cell (σ k a) j i ≡ bit_xor (cell a j i) (cell k j i)
    cell_σ k =
        cases4 (λ (j : ℕ). nibble (get_or (σ k a) j 0) i ≡ bit_xor (nibble (get_or a j 0) i) (nibble (get_or k j 0) i))
        (nibble_xor (get_or a 0 0) (get_or k 0 0) i) (nibble_xor (get_or a 1 0) (get_or k 1 0) i)
        (nibble_xor (get_or a 2 0) (get_or k 2 0) i) (nibble_xor (get_or a 3 0) (get_or k 3 0) i) j hj

pub block_σ : {k a : List ℕ} → Block k → Block a → Block (σ k a)
block_σ (words p q r s) (words p' q' r' s') = words (xor_lt 16 _ _ p' p) (xor_lt 16 _ _ q' q) (xor_lt 16 _ _ r' r) (xor_lt 16 _ _ s' s)

-- ---- inverses

-- each S-box of one direction undoes that of the other
pub sbox_opposite : (d : Direction) (s x : ℕ) → x < 16 → sbox (s + offset (opposite d)) (sbox (s + offset d) x) ≡ x
unfolding sbox
sbox_opposite d s x h = ap₂ (λ (m n : ℕ). get_or (get_or sboxes m []) (get_or (get_or sboxes n []) x 0) 0) (fourth s (offset (opposite d))) (fourth s (offset d)) ∙ test d (s % 4) x (omega arith) h
  where
    fourth : (m n : ℕ) → (m + n) % 4 ≡ (m % 4 + n) % 4
    fourth m n = omega arith

    test : (d : Direction) (m x : ℕ) → m < 4 → x < 16
        → get_or (get_or sboxes ((m + offset (opposite d)) % 4) []) (get_or (get_or sboxes ((m + offset d) % 4) []) x 0) 0 ≡ x
    test Encrypt = unfold sboxes in agree2 4 16 (λ m x. get_or (get_or sboxes ((m + 2) % 4) []) (get_or (get_or sboxes ((m + 0) % 4) []) x 0) 0) (λ m x. x) tt
    test Decrypt = unfold sboxes in agree2 4 16 (λ m x. get_or (get_or sboxes ((m + 0) % 4) []) (get_or (get_or sboxes ((m + 2) % 4) []) x 0) 0) (λ m x. x) tt

pub γ_γ : (d : Direction) {a : List ℕ} → Block a → γ (opposite d) (γ d a) ≡ a
γ_γ d {a} p =
    block_ext (block_γ (γ d a) (opposite d)) p
    (λ j i hj hi.
    cell_γ (γ d a) j i hj hi (opposite d)
    ∙ ap (sbox (i + j + offset (opposite d))) (cell_γ a j i hj hi d)
    ∙ sbox_opposite d (i + j) (cell a j i) (cell_lt a j i))

-- twice masked, nibble l of a column comes back in row l, and in no other row
masks_twice : (j i l x : ℕ) → j < 4 → i < 4 → l < 4 → x < 16
    → xor4 (λ k. bit_and (bit_and x (mask (i + k + l))) (mask (i + j + k))) ≡ (if eqb l j then x otherwise 0)
masks_twice =
    agree4 4 4 4 16 (λ j i l x. xor4 (λ k. bit_and (bit_and x (mask (i + k + l))) (mask (i + j + k)))) (λ j i l x. (if eqb l j then x otherwise 0)) tt

xor4_pick : (f : ℕ → ℕ) (j : ℕ) → j < 4 → xor4 (λ l. (if eqb l j then (f l) otherwise 0)) ≡ f j
xor4_pick f =
    cases4 (λ (j : ℕ). xor4 (λ l. (if eqb l j then (f l) otherwise 0)) ≡ f j)
    (ap (λ (x : ℕ). bit_xor x 0) (xor_zero_r (f 0)) ∙ xor_zero_r (f 0)) (xor_zero_r (f 1)) (xor_zero_r (f 2)) refl

pub π_π : {a : List ℕ} → Block a → π (π a) ≡ a
π_π {a} p = block_ext (block_π (π a)) p cells
  where
    cells : (j i : ℕ) → j < 4 → i < 4 → cell (π (π a)) j i ≡ cell a j i
    cells j i hj hi =
        cell_π (π a) j i hj hi
        ∙ xor4_ext (λ k hk.
        ap (λ (x : ℕ). bit_and x (mask (i + j + k))) (cell_π a k i hk hi)
        ∙ and_xor4 (λ l. bit_and (cell a l i) (mask (i + k + l))) (mask (i + j + k)))
        ∙ xor4_transpose (λ k l. bit_and (bit_and (cell a l i) (mask (i + k + l))) (mask (i + j + k)))
        ∙ xor4_ext (λ l hl. masks_twice j i l (cell a l i) hj hi hl (cell_lt a l i))
        ∙ xor4_pick (λ l. cell a l i) j hj

pub τ_τ : {a : List ℕ} → Block a → τ (τ a) ≡ a
τ_τ {a} p = block_ext (block_τ (τ a)) p (λ j i hj hi. cell_τ (τ a) j i hj hi ∙ cell_τ a i j hi hj)

pub γ_τ : (d : Direction) (a : List ℕ) → γ d (τ a) ≡ τ (γ d a)
γ_τ d a =
    block_ext (block_γ (τ a) d) (block_τ (γ d a))
    (λ j i hj hi.
    cell_γ (τ a) j i hj hi d
    ∙ ap₂ (λ (s x : ℕ). sbox (s + offset d) x) (add_comm i j) (cell_τ a j i hj hi)
    ∙ sym (cell_τ (γ d a) j i hj hi ∙ cell_γ a i j hi hj d))

pub σ_σ : {k a : List ℕ} → Block k → Block a → σ k (σ k a) ≡ a
σ_σ {k} {a} q p =
    block_ext (block_σ q (block_σ q p)) p
    (λ j i hj hi.
    cell_σ (σ k a) j i hj hi k
    ∙ ap (λ (x : ℕ). bit_xor x (cell k j i)) (cell_σ a j i hj hi k)
    ∙ xor_cancel (cell a j i) (cell k j i))

τ_σ : {k a : List ℕ} → Block k → Block a → τ (σ k a) ≡ σ (τ k) (τ a)
τ_σ {k} {a} q p =
    block_ext (block_τ (σ k a)) (block_σ (block_τ k) (block_τ a))
    (λ j i hj hi.
    cell_τ (σ k a) j i hj hi
    ∙ cell_σ a i j hi hj k
    ∙ sym (cell_σ (τ a) j i hj hi (τ k) ∙ ap₂ bit_xor (cell_τ a j i hj hi) (cell_τ k j i hj hi)))

π_σ : {k a : List ℕ} → Block k → Block a → π (σ k a) ≡ σ (π k) (π a)
π_σ {k} {a} q p =
    block_ext (block_π (σ k a)) (block_σ (block_π k) (block_π a))
    (λ j i hj hi.
    cell_π (σ k a) j i hj hi
    ∙ xor4_ext (λ l hl.
    ap (λ (x : ℕ). bit_and x (mask (i + j + l))) (cell_σ a l i hl hi k) ∙ and_xor (cell a l i) (cell k l i) (mask (i + j + l)))
    ∙ sym (xor4_xor (λ l. bit_and (cell a l i) (mask (i + j + l))) (λ l. bit_and (cell k l i) (mask (i + j + l))))
    ∙ sym (cell_σ (π a) j i hj hi (π k) ∙ ap₂ bit_xor (cell_π a j i hj hi) (cell_π k j i hj hi)))

pub φ_σ : {k a : List ℕ} → Block k → Block a → φ (σ k a) ≡ σ (φ k) (φ a)
φ_σ {k} {a} q p =
    ap (λ (x : List ℕ). τ (π x)) (τ_σ q p)
    ∙ ap τ (π_σ (block_τ k) (block_τ a))
    ∙ τ_σ (block_π (τ k)) (block_π (τ a))

pub φ_φ : {a : List ℕ} → Block a → φ (φ a) ≡ a
φ_φ {a} p = ap (λ (x : List ℕ). τ (π x)) (τ_τ (block_π (τ a))) ∙ ap τ (π_π (block_τ a)) ∙ τ_τ p

pub block_φ : (a : List ℕ) → Block (φ a)
block_φ a = block_τ (π (τ a))

-- a round of the other direction, with φ of the keys, takes a round back
pub round_back : (d : Direction) {k k' a : List ℕ} → Block k → Block k' → Block a
    → nibble_round (opposite d) (φ k) (φ (σ k' (nibble_round d k' a))) ≡ φ (σ k a)
round_back d {k} {k'} {a} q q' p =
    ap (λ (x : List ℕ). σ (φ k) (τ (π (γ (opposite d) (φ x))))) (σ_σ q' (block_τ (π (γ d a))))
    ∙ ap (λ (x : List ℕ). σ (φ k) (τ (π (γ (opposite d) x)))) turned
    ∙ ap (λ (x : List ℕ). σ (φ k) (τ (π x))) (γ_τ (opposite d) (γ d a) ∙ ap τ (γ_γ d p))
    ∙ sym (φ_σ q p)
  where
    turned : φ (τ (π (γ d a))) ≡ τ (γ d a)
    turned = ap (λ (x : List ℕ). τ (π x)) (τ_τ (block_π (γ d a))) ∙ ap τ (π_π (block_γ a d))

-- ---- φ, row by row

pub φ_rows : (a : List ℕ) → φ a ≡ array (λ i j. xor4 (λ k. bit_and (cell a i k) (mask (i + j + k))))
φ_rows a =
    block_ext (block_φ a) (block_array _ (λ i j. mix_lt _ (λ k. masked_lt (cell a i k) (mask (i + j + k)) (cell_lt a i k))))
    (λ i j hi hj.
    cell_τ (π (τ a)) i j hi hj
    ∙ cell_π (τ a) j i hj hi
    ∙ xor4_ext (λ k hk. ap (λ (x : ℕ). bit_and x (mask (i + j + k))) (cell_τ a k i hk hi))
    ∙ sym (cell_array (λ i j. xor4 (λ k. bit_and (cell a i k) (mask (i + j + k)))) (λ i j. mix_lt _ (λ k. masked_lt (cell a i k) (mask (i + j + k)) (cell_lt a i k))) i j hi hj))
