-- Laws of CMAC's subkeys and of its last block.
use mathlib.Core.Path.{◌≡◌, refl, sym, ap, ◌∙◌}
use mathlib.Core.Bool.{Bool, true, false}
use mathlib.Core.List.{List, [], ◌∷◌, ◌++◌}
use Prim.Native.Nat.{ℕ, suc, ◌+◌, ◌-◌, ◌*◌, ◌/◌, ◌%◌, ◌^◌, ◌≤◌, ◌<◌}
use native.Mathlib.Nat.{add-mul, mul_right_comm, pow-suc}
use native.Mathlib.Decide.{ℕ_discrete}
use native.Mathlib.Omega.{arith}
use borrow.Author.Tests.{eq-eqb, ne_eqb, eqb-true, eqb-false, lt-ltb, le-ltb}
use lib.Dec.{lit<, eqb, ltb}
use lib.ListN.{length, get_or, set, replicate, length-append}
use lib.Seq.{set_at}
use Rattle.octets.specs.Bytes.{Bytes, none, more, be, number, zeros, part, put, if◌then◌otherwise◌}
use Rattle.octets.proofs.EveryByte.{append_bytes, bytes_at, bytes_of}
use Rattle.octets.proofs.Numbers.{number_lt, be_number}
use Rattle.octets.proofs.Parts.{part_all}
use Rattle.octets.proofs.Zeros.{length_zeros, zeros_bytes, drop_zeros}
use Rattle.octets.specs.Block.{ByteBlock}
use Rattle.modes.specs.Xor.{xor_bytes}
use Rattle.modes.specs.Cmac.{shift_left, R64, double, L, K1, K2, last_block}
use Rattle.modes.proofs.Xor.{xor_block}

module _ (b s : List ℕ) (e : s ≡ shift_left b) where
  pub double_low : get_or b 0 0 < 128 → s ≡ double b
  unfolding double
  double_low h = e ∙ rw (lt-ltb (get_or b 0 0) 128 h)

  pub double_high : (r : List ℕ) → 128 ≤ get_or b 0 0 → r ≡ xor_bytes s R64 → r ≡ double b
  unfolding double
  double_high r h q = q ∙ rw (le-ltb (get_or b 0 0) 128 h, e)

-- 6.1: L, K1 and K2
module _ (E : List ℕ → List ℕ) (l : List ℕ) (e : l ≡ E (replicate 8 0)) where
  pub L_is : l ≡ L E
  unfolding zeros
  L_is = e

  module _ (k1 : List ℕ) (f : k1 ≡ double l) where
    pub K1_is : k1 ≡ K1 E
    K1_is = f ∙ ap double L_is

    pub K2_is : (k2 : List ℕ) → k2 ≡ double k1 → k2 ≡ K2 E
    K2_is k2 g = g ∙ ap double K1_is

pub length_shift : (b : List ℕ) → length (shift_left b) ≡ length b
unfolding shift_left
length_shift [] = refl
length_shift (x ∷ b) = ap suc (length_shift b)

-- the shift doubles the number, and the top bit is lost
pub shift_left_doubles : (b : List ℕ) → number (shift_left b) + get_or b 0 0 / 128 * 256 ^ length b ≡ number b * 2
unfolding shift_left number
shift_left_doubles [] = refl
shift_left_doubles (x ∷ s) =
    let w : ℕ = 256 ^ length s in
    let e : x ≡ x / 128 * 128 + x % 128 = omega arith in
    let p : x * w ≡ x / 128 * 128 * w + x % 128 * w = ap (λ (n : ℕ). n * w) e ∙ add-mul (x / 128 * 128) (x % 128) w in
    rw (length_shift s, pow-suc 256 (length s))
    (omega (arith, shift_left_doubles s, p, add-mul (x % 128 * 2) (get_or s 0 0 / 128) w, mul_right_comm (x % 128) 2 w, mul_right_comm (x / 128) 128 w))

pub shift_bytes : {b : List ℕ} → Bytes b → Bytes (shift_left b)
unfolding shift_left
shift_bytes none = none
shift_bytes (more {x} {s} h b) = more {x = x % 128 * 2 + get_or s 0 0 / 128} (omega (arith, bytes_at s 0 b)) (shift_bytes b)

-- a block shifted as a number
pub shift_eight : (b : List ℕ) (n : ℕ) → length b ≡ 8 → ((i : ℕ) → get_or b i 0 < 256) → n ≡ number b → be 8 (n * 2 % 2 ^ 64) ≡ shift_left b
shift_eight b n l h e =
    let t : Bytes (shift_left b) = shift_bytes (bytes_of b (λ i g. h i)) in
    let m : length (shift_left b) ≡ 8 = length_shift b ∙ l in
    let f : number (shift_left b) < 256 ^ 8 = rw m at (number_lt t) in
    let d : number (shift_left b) + get_or b 0 0 / 128 * 256 ^ 8 ≡ number b * 2 = rw l at (shift_left_doubles b) in
    let q : n * 2 % 2 ^ 64 ≡ number (shift_left b) = omega (arith, e, d, f) in
    rw q (ap (λ (k : ℕ). be k (number (shift_left b))) (sym m) ∙ be_number t)

-- a part block, padded
padded : (s : List ℕ) → length s ≤ 8 → (length s ≡ 8 → ⊥) → set (put (zeros 8) 0 s) (length s) 0x80 ≡ s ++ (0x80 ∷ zeros (7 - length s))
unfolding put zeros
padded s l n =
    let q : 8 - (0 + length s) ≡ suc (7 - length s) = omega arith in
    rw (drop_zeros (0 + length s) 8, q) (set_at s 0 (replicate (7 - length s) 0) 0x80 (length s) refl)

-- M_n, where t says whether M_n* is a complete block
module _ (s : List ℕ) (t : Bool) (e : t ≡ eqb (length s) 8) where
  complete : t ≡ true → length s ≡ 8
  complete h = eqb-true (length s) 8 (sym e ∙ h)

  short : t ≡ false → length s ≡ 8 → ⊥
  short h = eqb-false (length s) 8 (sym e ∙ h)

  pub complete_inside : t ≡ true → 0 + 8 ≤ length s
  complete_inside h = omega (arith, complete h)

  pub short_inside : t ≡ false → length s ≤ 8 → length s < 8
  short_inside h l = let n : length s ≡ 8 → ⊥ = short h in omega arith

  module _ (k1 k2 b r : List ℕ) where
    pub last_complete : t ≡ true → b ≡ part s 0 8 → r ≡ xor_bytes k1 b → r ≡ last_block k1 k2 s
    unfolding last_block
    last_complete h f g = g ∙ rw (← e, h, f, part_all s 8 (complete h))

    pub last_padded : t ≡ false → length s ≤ 8 → b ≡ put (replicate 8 0) 0 s → r ≡ xor_bytes k2 (set b (length s) 0x80) → r ≡ last_block k1 k2 s
    unfolding last_block zeros
    last_padded h l f g = g ∙ rw (← e, h, f) (ap (xor_bytes k2) (padded s l (short h)))

-- each gives a block
shift_block : {b : List ℕ} → ByteBlock b → ByteBlock (shift_left b)
shift_block {b} h = record { size = length_shift b ∙ h.size; bytes = shift_bytes h.bytes }

R64_block : ByteBlock R64
unfolding zeros
R64_block = record { size = refl; bytes = append_bytes (zeros_bytes 7) (more (lit< tt) none) }

pub double_block : {b : List ℕ} → ByteBlock b → ByteBlock (double b)
unfolding double
double_block {b} h = go (ltb (get_or b 0 0) 128)
  where
    go : (t : Bool) → ByteBlock (if t then shift_left b otherwise xor_bytes (shift_left b) R64)
    go true = shift_block h
    go false = xor_block (shift_block h) R64_block

pub zeros_block : ByteBlock (zeros 8)
zeros_block = record { size = length_zeros 8; bytes = zeros_bytes 8 }

pub last_block_lem : {k1 k2 s : List ℕ} → ByteBlock k1 → ByteBlock k2 → length s ≤ 8 → Bytes s → ByteBlock (last_block k1 k2 s)
unfolding last_block
last_block_lem {k1} {k2} {s} h1 h2 l b =
    elim (ℕ_discrete (length s) 8) [
      | yes e ↦ rw (eq-eqb (length s) 8 e) (xor_block h1 (record { size = e; bytes = b }))
      | no n ↦
          rw (ne_eqb (length s) 8 n)
          (xor_block h2 (record { size = length-append s (0x80 ∷ zeros (7 - length s)) ∙ omega (arith, length_zeros (7 - length s)); bytes = append_bytes b (more (lit< tt) (zeros_bytes (7 - length s))) }))
    ]
