-- Laws of CMAC: the chain, a message cut in two, and the tag.
use mathlib.Core.Path.{◌≡◌, refl, sym, ap, ap₂, ◌∙◌}
use mathlib.Core.List.{List, [], ◌++◌}
use Prim.Native.Nat.{ℕ, zero, suc, ◌+◌, ◌-◌, ◌*◌, ◌/◌, ◌≤◌, ◌<◌}
use native.Mathlib.Nat.{add-zero, zero-add}
use native.Mathlib.Omega.{arith}
use native.Mathlib.Decide.{dec_lt, ℕ_discrete}
use borrow.Author.Tests.{ne_eqb, lt-ltb, le-ltb}
use lib.ListN.{length, take, drop, replicate, length-append, length-take, length-drop}
use lib.Seq.{take_all}
use Rattle.octets.specs.Bytes.{Bytes, zeros, part}
use Rattle.octets.proofs.EveryByte.{part_bytes}
use Rattle.octets.proofs.Parts.{length_part, part_part, part_append_left, part_append_right}
use Rattle.octets.specs.Block.{ByteBlock}
use Rattle.modes.specs.Xor.{xor_bytes}
use Rattle.modes.specs.Cmac.{K1, K2, block_count, piece, last_block, message_block, chain, chain_value, cmac}
use Rattle.modes.specs.Steps.{TwoParts, BlocksIn}
use Rattle.modes.specs.Laws.{Cmac}
use Rattle.modes.proofs.Xor.{xor_block}
use Rattle.modes.proofs.Subkeys.{double_block, zeros_block, last_block_lem}

-- how many blocks a message has: one at least, all but the last within it, and none past its end
module _ (m : List ℕ) where
  count_bounds : (0 < block_count m) × (8 * (block_count m - 1) ≤ length m) × (length m ≤ 8 * block_count m)
  unfolding block_count
  count_bounds =
      elim (ℕ_discrete (length m) 0) [
        | yes e ↦ rw e (omega arith, omega arith, omega arith)
        | no n ↦ rw (ne_eqb (length m) 0 n) (omega arith, omega arith, omega arith)
      ]

  pub count_positive : 0 < block_count m
  count_positive = count_bounds.0

  pub count_start : 8 * (block_count m - 1) ≤ length m
  count_start = count_bounds.1

  pub count_rest : length m ≤ 8 * block_count m
  count_rest = count_bounds.2

  pub count_whole : (i : ℕ) → 0 < i → i < block_count m → 8 * (i - 1) + 8 ≤ length m
  count_whole i p l = omega (arith, count_start)

module _ (x y : List ℕ) where
  pub count_none : length x + length y ≡ 0 → 1 ≡ block_count (x ++ y)
  unfolding block_count
  count_none e = rw (length-append x y, e)

  pub count_more : (length x + length y ≡ 0 → ⊥) → ((length x + length y) - 1) / 8 + 1 ≡ block_count (x ++ y)
  unfolding block_count
  count_more n = rw (length-append x y, ne_eqb (length x + length y) 0 n) (omega arith)

-- a message in two parts: no block before it, and one
pub no_block_first : (m : List ℕ) → TwoParts [] m
no_block_first m = record { in_blocks = refl; last = omega (arith, count_positive m) }

pub block_first : (x y : List ℕ) → length x ≡ 8 → 0 < length y → TwoParts x y
block_first x y e h = record { in_blocks = omega arith; last = omega (arith, count_rest (x ++ y), length-append x y) }

-- chains over blocks that agree, and a chain cut in two
chain_agree : (E : List ℕ → List ℕ) (c : List ℕ) (M N : ℕ → List ℕ) (n : ℕ) → ((i : ℕ) → i < n → M (suc i) ≡ N (suc i)) → chain E c M n ≡ chain E c N n
unfolding chain
chain_agree E c M N zero h = refl
chain_agree E c M N (suc n) h = ap₂ (λ (x y : List ℕ). E (xor_bytes x y)) (chain_agree E c M N n (λ i l. h i (omega arith))) (h n (omega arith))

chain_split : (E : List ℕ → List ℕ) (c : List ℕ) (M : ℕ → List ℕ) (k n : ℕ) → chain E c M (k + n) ≡ chain E (chain E c M k) (λ i. M (k + i)) n
unfolding chain
chain_split E c M k zero = ap (chain E c M) (add-zero k)
chain_split E c M k (suc n) =
    let q : k + suc n ≡ suc (k + n) = omega arith in
    rw q (ap (λ (x : List ℕ). E (xor_bytes x (M (suc (k + n))))) (chain_split E c M k n))

-- the blocks of a message: all but the last, and the last
module _ (E : List ℕ → List ℕ) (m : List ℕ) where
  pub block_before : (i : ℕ) → i < block_count m → message_block E m i ≡ piece m i
  unfolding message_block
  block_before i h = rw (lt-ltb i (block_count m) h)

  pub block_last : (i : ℕ) → block_count m ≤ i → message_block E m i ≡ last_block (K1 E) (K2 E) (piece m i)
  unfolding message_block
  block_last i h = rw (le-ltb i (block_count m) h)

-- ---- the steps of 6.2 in the code

-- steps 2 and 3, on a message in two parts: M_1 to M_h are x, n is 1 at least, and M_n* is y from 8 * (n - 1 - h) on
pub blocks_in_first : (x y : List ℕ) → TwoParts x y → BlocksIn (x ++ y) x 0 (length x / 8)
blocks_in_first x y p =
    record {
      order = omega arith;
      before = omega (arith, p.last);
      inside = omega (arith, p.in_blocks);
      same = part_append_left x y 0 (8 * (length x / 8 - 0)) (omega (arith, p.in_blocks));
    }

module _ (x y : List ℕ) (n : ℕ) (e : n ≡ block_count (x ++ y)) where
  pub one_at_least : 1 ≤ n
  one_at_least = omega (arith, count_positive (x ++ y))

  module _ (p : TwoParts x y) where
    first_before_last : length x / 8 ≤ n - 1
    first_before_last = omega (arith, p.last, p.in_blocks)

    pub rest_inside : 8 * (n - 1 - length x / 8) ≤ length y
    rest_inside = omega (arith, count_start (x ++ y), length-append x y, p.in_blocks)

    pub last_short : length (take (length y - 8 * (n - 1 - length x / 8)) (drop (8 * (n - 1 - length x / 8)) y)) ≤ 8
    last_short = simp (length-take, length-drop) (omega (arith, count_rest (x ++ y), length-append x y, p.in_blocks, first_before_last))

    pub blocks_in_second : BlocksIn (x ++ y) y (length x / 8) (n - 1)
    blocks_in_second =
        record {
          order = first_before_last;
          before = omega (arith, one_at_least);
          inside = rest_inside;
          same = part_append_right x y (8 * (length x / 8)) 0 (8 * (n - 1 - length x / 8)) (omega (arith, p.in_blocks));
        }

    -- step 4
    pub last_is : (E : List ℕ → List ℕ) (k1 k2 b : List ℕ) → k1 ≡ K1 E → k2 ≡ K2 E
        → b ≡ last_block k1 k2 (take (length y - 8 * (n - 1 - length x / 8)) (drop (8 * (n - 1 - length x / 8)) y)) → b ≡ message_block E (x ++ y) n
    last_is E k1 k2 b e1 e2 g =
        let a : ℕ = 8 * (n - 1 - length x / 8) in
        let s : length (drop a y) ≤ length y - a = simp length-drop (omega arith) in
        let t : length (drop a y) ≤ 8 = simp length-drop (omega (arith, count_rest (x ++ y), length-append x y, p.in_blocks, first_before_last)) in
        let d : take (length y - a) (drop a y) ≡ piece (x ++ y) n =
        take_all (length y - a) (drop a y) s ∙ sym (part_append_right x y (8 * (n - 1)) a 8 (omega (arith, p.in_blocks, first_before_last)) ∙ take_all 8 (drop a y) t) in
        g ∙ rw (e1, e2, d) (sym (block_last E (x ++ y) n (omega arith)))

-- step 5: C_0
pub chain_start : (E : List ℕ → List ℕ) (m : List ℕ) → replicate 8 0 ≡ chain_value E (zeros 8) m 0
unfolding chain zeros
chain_start E m = refl

-- step 6: C_i, of C_{i-1} and M_i
pub chain_next : (E : List ℕ → List ℕ) (m : List ℕ) (i : ℕ) → 0 < i → (c b z r : List ℕ) → c ≡ chain_value E (zeros 8) m (i - 1) → b ≡ message_block E m i → z ≡ xor_bytes c b → r ≡ E z
    → r ≡ chain_value E (zeros 8) m i
unfolding chain
chain_next E m zero h c b z r ec eb ez er = absurd (omega arith)
chain_next E m (suc j) h c b z r ec eb ez er =
    let q : suc j - 1 ≡ j = omega arith in
    er ∙ ap E ez ∙ ap₂ (λ (u w : List ℕ). E (xor_bytes u w)) (ec ∙ ap (chain E (zeros 8) (message_block E m)) q) eb

-- steps 7 and 8: T = C_n
pub tag_is : (E : List ℕ → List ℕ) (m c : List ℕ) (n : ℕ) → n ≡ block_count m → c ≡ chain_value E (zeros 8) m n → c ≡ cmac E m
unfolding cmac
tag_is E m c n e h = rw (← e) h

-- block i of a part, and C_i, in the loop over that part
module _ (m s : List ℕ) (a b : ℕ) (v : BlocksIn m s a b) (i : ℕ) (h : a ≤ i) (l : i < b) where
  pub block_inside : 8 * (i - a) + 8 ≤ length s
  block_inside = omega (arith, v.inside)

  pub block_in_part : (E : List ℕ → List ℕ) (c : List ℕ) → c ≡ part s (8 * (i - a)) 8 → c ≡ message_block E m (i + 1)
  block_in_part E c e =
      let q : 8 * ((i + 1) - 1) ≡ 8 * a + 8 * (i - a) = omega arith in
      let z : 8 * (i - a) + 8 ≤ 8 * (b - a) = omega arith in
      e ∙ sym (block_before E m (i + 1) (omega (arith, v.before))
      ∙ rw q (sym (part_part m (8 * a) (8 * (b - a)) (8 * (i - a)) 8 z) ∙ ap (λ (t : List ℕ). part t (8 * (i - a)) 8) v.same ∙ part_part s 0 (8 * (b - a)) (8 * (i - a)) 8 z ∙ rw zero-add))

pub chain_again : (E : List ℕ → List ℕ) (m c : List ℕ) (i : ℕ) → c ≡ chain_value E (zeros 8) m i → c ≡ chain_value E (zeros 8) m ((i + 1) - 1)
chain_again E m c i h = let q : (i + 1) - 1 ≡ i = omega arith in rw q h

pub chain_end : (E : List ℕ → List ℕ) (m c : List ℕ) (i b : ℕ) → c ≡ chain_value E (zeros 8) m i → i ≤ b → b ≤ i → c ≡ chain_value E (zeros 8) m b
chain_end E m c i b h l g = let q : b ≡ i = omega arith in rw q h

-- a message x ++ y, of which x is k whole blocks and y is not empty
module _ (E : List ℕ → List ℕ) (c : List ℕ) (k : ℕ) (x y : List ℕ) (whole : length x ≡ 8 * k) (some : 0 < length y) where
  count_split : block_count (x ++ y) ≡ k + block_count y
  unfolding block_count
  count_split =
      let f : length y ≡ 0 → ⊥ = λ e. omega arith in
      let g : length x + length y ≡ 0 → ⊥ = λ e. omega arith in
      rw (length-append x y, ne_eqb (length y) 0 f, ne_eqb (length x + length y) 0 g) (omega arith)

  block_of_first : (i : ℕ) → i < k → message_block E (x ++ y) (suc i) ≡ piece x (suc i)
  block_of_first i h =
      block_before E (x ++ y) (suc i) (omega (arith, count_split, count_positive y)) ∙ part_append_left x y (8 * (suc i - 1)) 8 (omega arith)

  piece_of_second : (i : ℕ) → piece (x ++ y) (k + suc i) ≡ piece y (suc i)
  piece_of_second i = part_append_right x y (8 * ((k + suc i) - 1)) (8 * (suc i - 1)) 8 (omega arith)

  block_of_second : (i : ℕ) → message_block E (x ++ y) (k + suc i) ≡ message_block E y (suc i)
  block_of_second i =
      elim (dec_lt (suc i) (block_count y)) [
        | yes l ↦ block_before E (x ++ y) (k + suc i) (omega (arith, count_split)) ∙ piece_of_second i ∙ sym (block_before E y (suc i) l)
        | no l ↦
            block_last E (x ++ y) (k + suc i) (omega (arith, count_split))
            ∙ ap (last_block (K1 E) (K2 E)) (piece_of_second i)
            ∙ sym (block_last E y (suc i) (omega arith))
      ]

  pub mac_split : chain_value E c (x ++ y) (block_count (x ++ y)) ≡ chain_value E (chain E c (piece x) k) y (block_count y)
  mac_split =
      ap (chain E c (message_block E (x ++ y))) count_split
      ∙ chain_split E c (message_block E (x ++ y)) k (block_count y)
      ∙ chain_agree E (chain E c (message_block E (x ++ y)) k) (λ i. message_block E (x ++ y) (k + i)) (message_block E y) (block_count y) (λ i l. block_of_second i)
      ∙ ap (λ (d : List ℕ). chain E d (message_block E y) (block_count y)) (chain_agree E c (message_block E (x ++ y)) (piece x) k block_of_first)

-- two ciphers that agree on every block have one CMAC
pub mac_agree : (E F : List ℕ → List ℕ) (c m : List ℕ) → ((b : List ℕ) → E b ≡ F b) → (n : ℕ) → chain_value E c m n ≡ chain_value F c m n
unfolding chain message_block
mac_agree E F c m h zero = refl
mac_agree E F c m h (suc n) = rw (h (zeros 8), mac_agree E F c m h n) (h _)

-- every step gives a block
module _ (E : List ℕ → List ℕ) (encrypts : (x : List ℕ) → ByteBlock x → ByteBlock (E x)) where
  chain_block : (c : List ℕ) (M : ℕ → List ℕ) (n : ℕ) → ByteBlock c → ((i : ℕ) → i < n → ByteBlock (M (suc i))) → ByteBlock (chain E c M n)
  unfolding chain
  chain_block c M zero hc h = hc
  chain_block c M (suc n) hc h = encrypts _ (xor_block (chain_block c M n hc (λ i l. h i (omega arith))) (h n (omega arith)))

  message_block_lem : (m : List ℕ) (i : ℕ) → Bytes m → i < block_count m → ByteBlock (message_block E m (suc i))
  message_block_lem m i b h =
      elim (dec_lt (suc i) (block_count m)) [
        | yes l ↦ rw (block_before E m (suc i) l) (record { size = length_part m (8 * (suc i - 1)) 8 (count_whole m (suc i) (omega arith) l); bytes = part_bytes (8 * (suc i - 1)) 8 b })
        | no l ↦
            let k1 : ByteBlock (K1 E) = double_block (encrypts (zeros 8) zeros_block) in
            rw (block_last E m (suc i) (omega arith))
            (last_block_lem k1 (double_block k1) (simp length-take (omega arith)) (part_bytes (8 * (suc i - 1)) 8 b))
      ]

  pub mac_block : (c m : List ℕ) → ByteBlock c → Bytes m → ByteBlock (chain_value E c m (block_count m))
  mac_block c m hc b = chain_block c (message_block E m) (block_count m) hc (λ i l. message_block_lem m i b l)

  pub cmac_laws : Cmac E
  unfolding cmac
  cmac_laws = record { authenticates = λ m b. mac_block (zeros 8) m zeros_block b; split = mac_split E (zeros 8) }
