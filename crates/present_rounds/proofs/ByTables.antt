-- The tables' rule: the sum of the entries for the eight bytes is the box layer and then pLayer, or its inverse.
use mathlib.Core.Path.{◌≡◌, refl, sym, ap, ap₂, ◌∙◌}
use mathlib.Core.List.{List, [], ◌∷◌}
use Prim.Native.Nat.{ℕ, zero, suc, ◌+◌, ◌*◌, ◌/◌, ◌%◌, ◌^◌, ◌<◌}
use native.Mathlib.Nat.{mul_assoc, mul_comm, add-mul, pow-succ', div-div-eq-div-mul, not-suc-le-zero}
use native.Mathlib.Omega.{arith}
use mathlib.Core.Bool.{Bool, true, ◌&&◌}
use lib.Dec.{ltb}
use lib.ListN.{get_or}
use lib.Pow.{pow-add}
use borrow.Author.Tests.{ltb-true}
use Rattle.octets.proofs.Bool.{and_left, and_right}
use Rattle.present_rounds.specs.Digits.{sum, bit, nibble}
use Rattle.present_rounds.specs.Layers.{boxes, sbox, s_box_layer, place, p_layer, inverse_boxes, inverse_box, inverse_sBox_layer, inverse_pLayer}
use Rattle.present_rounds.specs.Tables.{listed, strewn, entry, spreads, gathers, byte, spread, gather, Below}
use Rattle.present_rounds.specs.declared.tables.TheConstants.{SPREAD_BOX, GATHER_BOX, GATHER}
use Rattle.present_rounds.proofs.Digits.{sum_ext, sum_parts, sum_scale, bit_nibble}
use Rattle.present_rounds.proofs.Layers.{box_layer, Box, sbox_box, inverse_box_lem, same_box, nibble_layer, source, place_nibble, place_lt, by_places}

-- ---- reading a table

listed_at : (n a : ℕ) (f : ℕ → ℕ) (i : ℕ) → i < n → get_or (listed n a f) i 0 ≡ f (a + i)
unfolding listed
listed_at zero a f i l = absurd (not-suc-le-zero l)
listed_at (suc n) a f zero l = let q : a + 0 ≡ a = omega arith in rw q
listed_at (suc n) a f (suc i) l = let q : suc a + i ≡ a + suc i = omega arith in listed_at n (suc a) f i (omega arith) ∙ ap f q

table_at : (f : ℕ → ℕ) (i : ℕ) → i < 256 → get_or (listed 256 0 f) i 0 ≡ f i
table_at f i l = let q : 0 + i ≡ i = omega arith in listed_at 256 0 f i l ∙ ap f q

byte_shift : (i : ℕ) → 2 ^ (8 * i) ≡ 256 ^ i
byte_shift zero = refl
byte_shift (suc i) =
    let q : 8 * suc i ≡ 8 + 8 * i = omega arith in
    ap (λ (m : ℕ). 2 ^ m) q ∙ pow-add 2 8 (8 * i) ∙ ap (λ (x : ℕ). 256 * x) (byte_shift i) ∙ sym (pow-succ' 256 i)

pub byte_is : (s i : ℕ) → s / 2 ^ (8 * i) % 256 ≡ byte s i
byte_is s i = ap (λ (x : ℕ). s / x % 256) (byte_shift i)

pub entry_is : {m x : ℕ} {t : List ℕ} (s i : ℕ) → Below m t → x ≡ byte s i → (get_or t x 0 ≡ get_or t (byte s i) 0) × (get_or t x 0 < m)
entry_is {m} {x} {t} s i h e = (ap (λ (x : ℕ). get_or t x 0) e, h.at x)

pub spread_is : (t : List ℕ) (s : ℕ) {e0 e1 e2 e3 e4 e5 e6 e7 : ℕ}
    → e0 ≡ get_or t (byte s 0) 0 → e1 ≡ get_or t (byte s 1) 0 → e2 ≡ get_or t (byte s 2) 0 → e3 ≡ get_or t (byte s 3) 0
    → e4 ≡ get_or t (byte s 4) 0 → e5 ≡ get_or t (byte s 5) 0 → e6 ≡ get_or t (byte s 6) 0 → e7 ≡ get_or t (byte s 7) 0
    → ((e0 + e1 * 4) + (e2 * 16 + e3 * 64)) + ((e4 * 256 + e5 * 1024) + (e6 * 4096 + e7 * 16384)) ≡ spread t s
unfolding spread sum
spread_is t s h0 h1 h2 h3 h4 h5 h6 h7 = omega arith

pub gather_is : (t : List ℕ) (s : ℕ) {e0 e1 e2 e3 e4 e5 e6 e7 : ℕ}
    → e0 ≡ get_or t (byte s 0) 0 → e1 ≡ get_or t (byte s 1) 0 → e2 ≡ get_or t (byte s 2) 0 → e3 ≡ get_or t (byte s 3) 0
    → e4 ≡ get_or t (byte s 4) 0 → e5 ≡ get_or t (byte s 5) 0 → e6 ≡ get_or t (byte s 6) 0 → e7 ≡ get_or t (byte s 7) 0
    → ((e0 + e1 * 0x100000000) + (e2 * 2 + e3 * 0x200000000)) + ((e4 * 4 + e5 * 0x400000000) + (e6 * 8 + e7 * 0x800000000)) ≡ gather t s
unfolding gather sum
gather_is t s h0 h1 h2 h3 h4 h5 h6 h7 = omega arith

-- ---- the rule, where bit b of nibble j moves to place u * b + v j, and v of an odd nibble is d more than of the even one before

-- the two nibbles of a byte
byte_low : (s i : ℕ) → byte s i % 16 ≡ nibble s (i * 2 + 0)
byte_low s i = low (s / 256 ^ i) ∙ ap (λ (x : ℕ). s / x % 16) (twice i)
  where
    low : (x : ℕ) → x % 256 % 16 ≡ x % 16
    low x = omega arith

    twice : (i : ℕ) → 256 ^ i ≡ 16 ^ (i * 2 + 0)
    twice zero = refl
    twice (suc i) =
        let q : suc i * 2 + 0 ≡ 2 + (i * 2 + 0) = omega arith in
        pow-succ' 256 i ∙ ap (λ (x : ℕ). 256 * x) (twice i) ∙ sym (ap (λ (m : ℕ). 16 ^ m) q ∙ pow-add 16 2 (i * 2 + 0))

byte_high : (s i : ℕ) → byte s i / 16 ≡ nibble s (i * 2 + 1)
byte_high s i = high (s / 256 ^ i) ∙ ap (λ (x : ℕ). x % 16) (div-div-eq-div-mul s (256 ^ i) 16) ∙ ap (λ (x : ℕ). s / x % 16) (twice i)
  where
    high : (x : ℕ) → x % 256 / 16 ≡ x / 16 % 16
    high x = omega arith

    twice : (i : ℕ) → 256 ^ i * 16 ≡ 16 ^ (i * 2 + 1)
    twice zero = refl
    twice (suc i) =
        let q : suc i * 2 + 1 ≡ 2 + (i * 2 + 1) = omega arith in
        ap (λ (x : ℕ). x * 16) (pow-succ' 256 i) ∙ mul_assoc 256 (256 ^ i) 16 ∙ ap (λ (x : ℕ). 256 * x) (twice i) ∙ sym (ap (λ (m : ℕ). 16 ^ m) q ∙ pow-add 16 2 (i * 2 + 1))

byte_lt : (s i : ℕ) → byte s i < 256
byte_lt s i = omega arith

sum_two : (g : ℕ → ℕ) → g 0 + g 1 ≡ sum 2 g
unfolding sum
sum_two g = omega arith

module _ (u d : ℕ) (v w : ℕ → ℕ) (place_of : (j b : ℕ) → j < 16 → b < 4 → w (j * 4 + b) ≡ u * b + v j)
    (odd : (i : ℕ) → i < 8 → v (i * 2 + 1) ≡ d + v (i * 2 + 0)) (f : ℕ → ℕ) (box : Box f) (s : ℕ) where
  -- the bits of one nibble
  of_nibble : (j : ℕ) → j < 16 → sum 4 (λ b. bit (box_layer f s) (j * 4 + b) * 2 ^ w (j * 4 + b)) ≡ strewn u (f (nibble s j)) * 2 ^ v j
  unfolding strewn
  of_nibble j l =
      sum_ext 4 (λ b h.
      ap₂ (λ (x m : ℕ). x * 2 ^ m) (bit_nibble (box_layer f s) j b h ∙ ap (λ (x : ℕ). bit x b) (nibble_layer f box s j l)) (place_of j b l h)
      ∙ ap (λ (m : ℕ). bit (f (nibble s j)) b * m) (pow-add 2 (u * b) (v j))
      ∙ sym (mul_assoc (bit (f (nibble s j)) b) (2 ^ (u * b)) (2 ^ v j)))
      ∙ sym (sum_scale 4 (λ b. bit (f (nibble s j)) b * 2 ^ (u * b)) (2 ^ v j))

  of_byte : (i : ℕ) → i < 8 → get_or (listed 256 0 (entry u d f)) (byte s i) 0 * 2 ^ v (i * 2 + 0) ≡ sum 2 (λ h. strewn u (f (nibble s (i * 2 + h))) * 2 ^ v (i * 2 + h))
  unfolding entry
  of_byte i l =
      ap (λ (x : ℕ). x * 2 ^ v (i * 2 + 0)) (table_at (entry u d f) (byte s i) (byte_lt s i) ∙ ap₂ (λ (x y : ℕ). strewn u (f x) + strewn u (f y) * 2 ^ d) (byte_low s i) (byte_high s i))
      ∙ add-mul (strewn u (f (nibble s (i * 2 + 0)))) (strewn u (f (nibble s (i * 2 + 1))) * 2 ^ d) (2 ^ v (i * 2 + 0))
      ∙ ap (λ (x : ℕ). strewn u (f (nibble s (i * 2 + 0))) * 2 ^ v (i * 2 + 0) + x)
      (mul_assoc (strewn u (f (nibble s (i * 2 + 1)))) (2 ^ d) (2 ^ v (i * 2 + 0))
      ∙ ap (λ (x : ℕ). strewn u (f (nibble s (i * 2 + 1))) * x) (sym (pow-add 2 d (v (i * 2 + 0))) ∙ ap (λ (m : ℕ). 2 ^ m) (sym (odd i l))))
      ∙ sum_two (λ h. strewn u (f (nibble s (i * 2 + h))) * 2 ^ v (i * 2 + h))

  by_bytes : sum 8 (λ i. get_or (listed 256 0 (entry u d f)) (byte s i) 0 * 2 ^ v (i * 2 + 0)) ≡ sum 64 (λ m. bit (box_layer f s) m * 2 ^ w m)
  by_bytes =
      sum_ext 8 of_byte
      ∙ sym (sum_parts 8 2 (λ j. strewn u (f (nibble s j)) * 2 ^ v j))
      ∙ sym (sum_parts 16 4 (λ m. bit (box_layer f s) m * 2 ^ w m) ∙ sum_ext 16 of_nibble)

-- ---- the three tables

module _ (f : ℕ → ℕ) (box : Box f) (s : ℕ) where
  pub spread_layer : spread (spreads f) s ≡ p_layer (box_layer f s)
  unfolding spread spreads p_layer
  spread_layer =
      sum_ext 8 (λ i l. ap (λ (m : ℕ). get_or (listed 256 0 (entry 16 1 f)) (byte s i) 0 * 2 ^ m) {x = 2 * i} {y = i * 2 + 0} (omega arith))
      ∙ by_bytes 16 1 (λ j. j) place (λ j b hj hb. place_nibble j b hj hb ∙ ap (λ (x : ℕ). x + j) (mul_comm b 16)) (λ i l. omega arith) f box s

  pub gather_layer : gather (gathers f) s ≡ inverse_pLayer (box_layer f s)
  unfolding gather gathers inverse_pLayer
  gather_layer =
      sum_ext 8 (λ i l. ap (λ (m : ℕ). get_or (listed 256 0 (entry 4 16 f)) (byte s i) 0 * 2 ^ m) {x = 32 * (i % 2) + i / 2} {y = 16 * ((i * 2 + 0) % 4) + (i * 2 + 0) / 4} (omega arith))
      ∙ by_bytes 4 16 (λ j. 16 * (j % 4) + j / 4) source (λ j b hj hb. omega arith) (λ i l. omega arith) f box s
      ∙ sym (by_places (λ i m. bit (box_layer f s) m * 2 ^ i))

pub spread_box_is : (s : ℕ) → spread (spreads sbox) s ≡ p_layer (s_box_layer s)
unfolding s_box_layer
spread_box_is = spread_layer sbox sbox_box

pub gather_box_is : (s : ℕ) → gather (gathers inverse_box) s ≡ inverse_pLayer (inverse_sBox_layer s)
unfolding inverse_sBox_layer
gather_box_is = gather_layer inverse_box inverse_box_lem

-- the nibbles of s put together again have the bits of s
same_bit : (s m : ℕ) → m < 64 → bit (box_layer (λ x. x) s) m ≡ bit s m
same_bit s m l =
    let q : m ≡ m / 4 * 4 + m % 4 = omega arith in
    let h : m % 4 < 4 = omega arith in
    ap (bit (box_layer (λ x. x) s)) q
    ∙ bit_nibble (box_layer (λ x. x) s) (m / 4) (m % 4) h
    ∙ ap (λ (x : ℕ). bit x (m % 4)) (nibble_layer (λ x. x) same_box s (m / 4) (omega arith))
    ∙ sym (ap (bit s) q ∙ bit_nibble s (m / 4) (m % 4) h)

pub gather_alone_is : (s : ℕ) → gather (gathers (λ x. x)) s ≡ inverse_pLayer s
unfolding inverse_pLayer
gather_alone_is s = gather_layer (λ x. x) same_box s ∙ sum_ext 64 (λ i l. ap (λ (b : ℕ). b * 2 ^ i) (same_bit s (place i) (place_lt i l)))

-- every entry is below m: a test that is computed
abbrev less_than : ℕ → List ℕ → Bool
less_than m [] = ltb 0 m
less_than m (x ∷ t) = ltb x m && less_than m t

below_all : (m : ℕ) (t : List ℕ) → less_than m t ≡ true → Below m t
below_all m t h = record { at = go t h }
  where
    go : (t : List ℕ) → less_than m t ≡ true → (i : ℕ) → get_or t i 0 < m
    go [] h i = ltb-true 0 m h
    go (x ∷ t) h zero = ltb-true x m (and_left (ltb x m) (less_than m t) h)
    go (x ∷ t) h (suc i) = go t (and_right (ltb x m) (less_than m t) h) i

-- ---- the tables in the code

pub spread_box_table : SPREAD_BOX ≡ spreads sbox
unfolding spreads listed entry strewn sum sbox boxes
spread_box_table = refl

pub gather_box_table : GATHER_BOX ≡ gathers inverse_box
unfolding gathers listed entry strewn sum inverse_box inverse_boxes
gather_box_table = refl

pub gather_table : GATHER ≡ gathers (λ x. x)
unfolding gathers listed entry strewn sum
gather_table = refl

pub spread_box_below : Below 0x0003000300030004 SPREAD_BOX
spread_box_below = below_all 0x0003000300030004 SPREAD_BOX refl

pub gather_box_below : Below 0x11111112 GATHER_BOX
gather_box_below = below_all 0x11111112 GATHER_BOX refl

pub gather_below : Below 0x11111112 GATHER
gather_below = below_all 0x11111112 GATHER refl
