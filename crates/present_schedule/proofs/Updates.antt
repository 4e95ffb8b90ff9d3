-- The update of a register that is held as two numbers.
use mathlib.Core.Path.{◌≡◌, refl, sym, ap, ap₂, ◌∙◌, subst}
use mathlib.Core.Bool.{Bool, true, false, false≢true}
use Prim.Native.Nat.{ℕ, ◌+◌, ◌*◌, ◌/◌, ◌%◌, ◌^◌, ◌<◌}
use native.Mathlib.Nat.{mod-lt, add_assoc, add-mul, mul_assoc, mul_comm, div-add-mod'}
use native.Mathlib.Omega.{arith}
use lib.Arith.{digits_lt, digits_div, digits_mod}
use lib.Bits.{bit_xor, xor_lt, xor_block}
use lib.Dec.{lit<, eqb, eqb→eq}
use lib.Pow.{pow-add, shr-shr, shr_lt}
use Rattle.present_rounds.specs.Layers.{boxes, sbox}
use Rattle.present_schedule.specs.Schedule.{rotated, boxed, update80, update128}
use Rattle.present_schedule.specs.Registers.{rest, Updated}
use Rattle.octets.proofs.Test.{below}

-- the S-box in one number
pub box_at_is : (x : ℕ) → x < 16 → (0x21748FE3DA09B65C / 2 ^ (4 * x) % 16 ≡ sbox x) × (0x21748FE3DA09B65C / 2 ^ (4 * x) % 16 < 16)
unfolding sbox boxes
box_at_is x h = (eqb→eq (0x21748FE3DA09B65C / 2 ^ (4 * x) % 16) (sbox x) (below 16 (λ x. eqb (0x21748FE3DA09B65C / 2 ^ (4 * x) % 16) (sbox x)) tt x h), mod-lt (0x21748FE3DA09B65C / 2 ^ (4 * x)) (lit< tt))

-- the nibble q in a number
boxed_at : (a p q r : ℕ) → q < 16 → r < 2 ^ a → boxed a ((p * 16 + q) * 2 ^ a + r) ≡ (p * 16 + sbox q) * 2 ^ a + r
unfolding boxed
boxed_at a p q r hq hr =
    let x : ℕ = (p * 16 + q) * 2 ^ a + r in
    let above : x / 2 ^ a ≡ p * 16 + q = digits_div (p * 16 + q) hr in
    let top : x / 2 ^ (a + 4) ≡ p = sym (shr-shr x a 4) ∙ ap (λ (n : ℕ). n / 16) above ∙ digits_div p hq in
    let nibble : x / 2 ^ a % 16 ≡ q = ap (λ (n : ℕ). n % 16) above ∙ digits_mod p hq in
    let low : x % 2 ^ a ≡ r = digits_mod (p * 16 + q) hr in
    let shift : p * 2 ^ (a + 4) ≡ p * 16 * 2 ^ a = ap (λ (n : ℕ). p * n) (pow-add 2 a 4 ∙ mul_comm (2 ^ a) 16) ∙ sym (mul_assoc p 16 (2 ^ a)) in
    ap₂ (λ (m n : ℕ). m * 2 ^ (a + 4) + n * 2 ^ a + x % 2 ^ a) top (ap sbox nibble)
    ∙ ap₂ (λ (m n : ℕ). m + sbox q * 2 ^ a + n) shift low
    ∙ ap (λ (n : ℕ). n + r) (sym (add-mul (p * 16) (sbox q) (2 ^ a)))

-- a number in two parts, rotated: three bits of the left part come to the right of it
rotated_parts : (c h l : ℕ) → l < c → (h * c + l) % (8 * c) * 2 ^ 61 + (h * c + l) / (8 * c) ≡ (h % 8 * c + l) * 2 ^ 61 + h / 8
rotated_parts c h l hl =
    let e : h * c + l ≡ h / 8 * (8 * c) + (h % 8 * c + l) =
    ap (λ (n : ℕ). n * c + l) (sym (div-add-mod' h 8)) ∙ ap (λ (n : ℕ). n + l) (add-mul (h / 8 * 8) (h % 8) c)
    ∙ add_assoc (h / 8 * 8 * c) (h % 8 * c) l ∙ ap (λ (n : ℕ). n + (h % 8 * c + l)) (mul_assoc (h / 8) 8 c) in
    let g : h % 8 * c + l < 8 * c = digits_lt (mod-lt h (lit< tt)) hl in
    ap₂ (λ (m n : ℕ). m * 2 ^ 61 + n) (ap (λ (x : ℕ). x % (8 * c)) e ∙ digits_mod (h / 8) g) (ap (λ (x : ℕ). x / (8 * c)) e ∙ digits_div (h / 8) g)

-- ---- 80 bits

module _ (h l i : ℕ) (hh : h < 2 ^ 64) (hl : l < 2 ^ 16) where
  pub q80 : h % 8 * 2 + l / 32768 < 16
  q80 = omega arith

  r80 : l % 32768 * 2 ^ 61 + h / 8 < 2 ^ 76
  r80 = digits_lt {m = 32768} (mod-lt l (lit< tt)) (omega arith)

  parts80 : (h % 8 * 2 ^ 16 + l) * 2 ^ 61 + h / 8 ≡ (0 * 16 + (h % 8 * 2 + l / 32768)) * 2 ^ 76 + (l % 32768 * 2 ^ 61 + h / 8)
  parts80 = omega arith

  joined80 : (a : ℕ) → (0 * 16 + a) * 2 ^ 76 + (l % 32768 * 2 ^ 61 + h / 8)
      ≡ (a * 0x1000000000000000 + l % 32768 * 0x200000000000 + h / 0x80000) * 2 ^ 16 + h / 8 % 65536
  joined80 a = omega arith

  pub update80_is : (a : ℕ) → a ≡ sbox (h % 8 * 2 + l / 32768)
      → bit_xor (a * 0x1000000000000000 + l % 32768 * 0x200000000000 + h / 0x80000) (i / 2) * 2 ^ 16 + bit_xor (h / 8 % 65536) (i % 2 * 32768)
      ≡ update80 i (h * 2 ^ 16 + l)
  unfolding update80 rotated
  update80_is a e =
      sym (ap (λ (k : ℕ). bit_xor (boxed 76 k) (i * 2 ^ 15)) (rotated_parts (2 ^ 16) h l hl ∙ parts80)
      ∙ ap (λ (k : ℕ). bit_xor k (i * 2 ^ 15)) (boxed_at 76 0 (h % 8 * 2 + l / 32768) (l % 32768 * 2 ^ 61 + h / 8) q80 r80
      ∙ ap (λ (n : ℕ). (0 * 16 + n) * 2 ^ 76 + (l % 32768 * 2 ^ 61 + h / 8)) (sym e)
      ∙ joined80 a)
      ∙ ap (bit_xor ((a * 0x1000000000000000 + l % 32768 * 0x200000000000 + h / 0x80000) * 2 ^ 16 + h / 8 % 65536)) counter
      ∙ xor_block 16 (a * 0x1000000000000000 + l % 32768 * 0x200000000000 + h / 0x80000) (i / 2) (h / 8 % 65536) (i % 2 * 32768) (omega arith) (omega arith))
    where
      counter : i * 2 ^ 15 ≡ i / 2 * 2 ^ 16 + i % 2 * 32768
      counter = omega arith

-- ---- 128 bits

module _ (h l i : ℕ) (hh : h < 2 ^ 64) (hl : l < 2 ^ 64) where
  pub q128 : h % 8 * 2 + l / 0x8000000000000000 < 16
  q128 = small h (shr_lt 1 63 hl)
    where
      small : (h : ℕ) {x : ℕ} → x < 2 → h % 8 * 2 + x < 16
      small h g = omega arith

  eighth : h / 8 < 2 ^ 61
  eighth = shr_lt 61 3 hh

  pub y128 : l % 8 * 2 ^ 61 + h / 8 < 2 ^ 64
  y128 = digits_lt {m = 8} (mod-lt l (lit< tt)) eighth

  r128 : l % 0x800000000000000 * 2 ^ 61 + h / 8 < 2 ^ 120
  r128 = digits_lt {m = 0x800000000000000} (mod-lt l (lit< tt)) eighth

  s128 : l / 0x800000000000000 % 16 * 2 ^ 120 + (l % 0x800000000000000 * 2 ^ 61 + h / 8) < 2 ^ 124
  s128 = digits_lt {m = 16} (mod-lt (l / 0x800000000000000) (lit< tt)) r128

  parts128 : (h % 8 * 2 ^ 64 + l) * 2 ^ 61 + h / 8
      ≡ (0 * 16 + (h % 8 * 2 + l / 0x8000000000000000)) * 2 ^ 124 + (l / 0x800000000000000 % 16 * 2 ^ 120 + (l % 0x800000000000000 * 2 ^ 61 + h / 8))
  parts128 = omega arith

  middle128 : (a b r : ℕ) → (0 * 16 + a) * 2 ^ 124 + (b * 2 ^ 120 + r) ≡ (a * 16 + b) * 2 ^ 120 + r
  middle128 a b r = omega arith

  joined128 : (a b : ℕ) → (a * 16 + b) * 2 ^ 120 + (l % 0x800000000000000 * 2 ^ 61 + h / 8)
      ≡ (a * 0x1000000000000000 + b * 0x100000000000000 + l / 8 % 0x100000000000000) * 2 ^ 64 + (l % 8 * 2 ^ 61 + h / 8)
  joined128 a b = omega arith

  pub update128_is : (a b : ℕ) → a ≡ sbox (h % 8 * 2 + l / 0x8000000000000000) → b ≡ sbox (l / 0x800000000000000 % 16)
      → bit_xor (a * 0x1000000000000000 + b * 0x100000000000000 + l / 8 % 0x100000000000000) (i / 4) * 2 ^ 64 + bit_xor (l % 8 * 2 ^ 61 + h / 8) (i % 4 * 2 ^ 62)
      ≡ update128 i (h * 2 ^ 64 + l)
  unfolding update128 rotated
  update128_is a b e f =
      let q : ℕ = h % 8 * 2 + l / 0x8000000000000000 in
      let p : ℕ = l / 0x800000000000000 % 16 in
      let r : ℕ = l % 0x800000000000000 * 2 ^ 61 + h / 8 in
      sym (ap (λ (k : ℕ). bit_xor (boxed 120 (boxed 124 k)) (i * 2 ^ 62)) (rotated_parts (2 ^ 64) h l hl ∙ parts128)
      ∙ ap (λ (k : ℕ). bit_xor (boxed 120 k) (i * 2 ^ 62)) (boxed_at 124 0 q (p * 2 ^ 120 + r) q128 s128 ∙ middle128 (sbox q) p r)
      ∙ ap (λ (k : ℕ). bit_xor k (i * 2 ^ 62)) (boxed_at 120 (sbox q) p r (mod-lt (l / 0x800000000000000) (lit< tt)) r128
      ∙ ap₂ (λ (m n : ℕ). (m * 16 + n) * 2 ^ 120 + r) (sym e) (sym f)
      ∙ joined128 a b)
      ∙ ap (bit_xor ((a * 0x1000000000000000 + b * 0x100000000000000 + l / 8 % 0x100000000000000) * 2 ^ 64 + (l % 8 * 2 ^ 61 + h / 8))) (counter i)
      ∙ xor_block 64 (a * 0x1000000000000000 + b * 0x100000000000000 + l / 8 % 0x100000000000000) (i / 4) (l % 8 * 2 ^ 61 + h / 8) (i % 4 * 2 ^ 62) y128 (small i))
    where
      counter : (i : ℕ) → i * 2 ^ 62 ≡ i / 4 * 2 ^ 64 + i % 4 * 2 ^ 62
      counter i = omega arith

      small : (i : ℕ) → i % 4 * 2 ^ 62 < 2 ^ 64
      small i = omega arith

-- ---- what the code hands back

pub wide_updated : (h l i : ℕ) {a b : ℕ} (w : Bool) → w ≡ true → h < 2 ^ 64 → l < 2 ^ 64
    → a ≡ sbox (h % 8 * 2 + l / 0x8000000000000000) → b ≡ sbox (l / 0x800000000000000 % 16)
    → Updated i (record { high = h; low = l; wide = w }) (record {
      high = bit_xor (a * 0x1000000000000000 + b * 0x100000000000000 + l / 8 % 0x100000000000000) (i / 4);
      low = bit_xor (l % 8 * 2 ^ 61 + h / 8) (i % 4 * 2 ^ 62);
      wide = w;
    })
wide_updated h l i {a} {b} true t hh hl e f =
    record {
      same_width = refl;
      low_lt = xor_lt 64 _ _ (y128 h l i hh hl) (small i);
      holds = update128_is h l i hh hl a b e f;
    }
  where
    small : (i : ℕ) → i % 4 * 2 ^ 62 < 2 ^ 64
    small i = omega arith
wide_updated h l i false t hh hl e f = absurd (false≢true t)

pub narrow_updated : (h l i : ℕ) {a : ℕ} (w : Bool) → w ≡ false → h < 2 ^ 64 → l < 2 ^ rest w
    → a ≡ sbox (h % 8 * 2 + l / 32768)
    → Updated i (record { high = h; low = l; wide = w }) (record {
      high = bit_xor (a * 0x1000000000000000 + l % 32768 * 0x200000000000 + h / 0x80000) (i / 2);
      low = bit_xor (h / 8 % 65536) (i % 2 * 32768);
      wide = w;
    })
narrow_updated h l i {a} false t hh hl e =
    record {
      same_width = refl;
      low_lt = xor_lt 16 _ _ (byte2 h) (small i);
      holds = update80_is h l i hh hl a e;
    }
  where
    byte2 : (h : ℕ) → h / 8 % 65536 < 65536
    byte2 h = omega arith

    small : (i : ℕ) → i % 2 * 32768 < 65536
    small i = omega arith
narrow_updated h l i true t hh hl e = absurd (false≢true (sym t))

-- where it looks the S-box up, and that its sum fits
pub narrow_low : (l : ℕ) (w : Bool) → w ≡ false → l < 2 ^ rest w → l < 2 ^ 16
narrow_low l false t h = h
narrow_low l true t h = absurd (false≢true (sym t))

pub x80 : (h l a : ℕ) → h < 2 ^ 64 → a < 16 → a * 0x1000000000000000 + l % 32768 * 0x200000000000 + h / 0x80000 < 2 ^ 64
x80 h l a hh ha =
    subst (λ (n : ℕ). n < 2 ^ 64) (sym (add_assoc (a * 0x1000000000000000) (l % 32768 * 0x200000000000) (h / 0x80000)))
    (digits_lt {m = 16} ha (digits_lt {m = 32768} (mod-lt l (lit< tt)) (shr_lt 45 19 hh)))
