-- The laws of rotating a 16-bit word.
use mathlib.Core.Path.{◌≡◌, refl, sym, ap, ap₂, ◌∙◌, subst}
use Prim.Native.Nat.{ℕ, zero, suc, ◌+◌, ◌*◌, ◌/◌, ◌%◌, ◌^◌, ◌-◌, ◌≤◌, ◌<◌}
use native.Mathlib.Nat.{zero-add, suc-add, zero-lt-suc, pow-suc, mod-lt, mul-mod_left, add-zero, add_comm, div-add-mod', mul-le-mul_right}
use native.Mathlib.Omega.{arith}
use lib.Bits.{bit_or, or_shifted}
use lib.Arith.{digits_lt}
use lib.Pow.{pow-add, pow_pos, shr_lt, shl-shr, mod-pow-add}
use Rattle.rounds.specs.Word.{rotate1, rotate}

rotate1_lt : {w : ℕ} → w < 65536 → rotate1 w < 65536
unfolding rotate1
rotate1_lt h = omega arith

rotate1_sum : {w : ℕ} → w < 65536 → rotate1 w + 65535 * (w / 32768) ≡ 2 * w
unfolding rotate1
rotate1_sum h = omega arith

rotate1_pos : {w : ℕ} → w < 65536 → 0 < w → 0 < rotate1 w
rotate1_pos {w} h p = let e = rotate1_sum h in omega arith

pub rotate_lt : (k : ℕ) {w : ℕ} → w < 65536 → rotate k w < 65536
unfolding rotate
rotate_lt zero h = h
rotate_lt (suc k) h = rotate1_lt (rotate_lt k h)

pub rotate_add : (a b w : ℕ) → rotate a (rotate b w) ≡ rotate (a + b) w
unfolding rotate
rotate_add zero b w = rw zero-add
rotate_add (suc a) b w = rw suc-add (ap rotate1 (rotate_add a b w))

-- x is w rotated by k bits: it is 2 ^ k * w less a multiple of 65535, and it is 0 exactly where w is
pub record Turned (k w x : ℕ) : Type 0 where
  pub lt : x < 65536
  pub null : w ≡ 0 → x ≡ 0
  pub pos : 0 < w → 0 < x
  pub carry : ℕ
  pub sum : x + 65535 * carry ≡ 2 ^ k * w

rotate1_zero : rotate1 0 ≡ 0
unfolding rotate1
rotate1_zero = refl

doubled : (k w : ℕ) → 2 ^ suc k * w ≡ 2 * (2 ^ k * w)
doubled k w = ap (λ (p : ℕ). p * w) (pow-suc 2 k) ∙ omega arith

turned : (k : ℕ) {w : ℕ} → w < 65536 → Turned k w (rotate k w)
unfolding rotate
turned zero {w} h = record { lt = h; null = λ e. e; pos = λ p. p; carry = 0; sum = omega arith }
turned (suc k) {w} h =
    let t = turned k h in
    record {
      lt = rotate1_lt t.lt;
      null = λ e. ap rotate1 (t.null e) ∙ rotate1_zero;
      pos = λ p. rotate1_pos t.lt (t.pos p);
      carry = 2 * t.carry + rotate k w / 32768;
      sum = omega (arith, rotate1_sum t.lt, t.sum, doubled k w);
    }

one_turn : (k w x y : ℕ) → Turned k w x → Turned k w y → x ≡ y
one_turn k zero x y s t = s.null refl ∙ sym (t.null refl)
one_turn k (suc w) x y s t = omega (arith, s.pos (zero-lt-suc w), t.pos (zero-lt-suc w), s.lt, t.lt, s.sum, t.sum)

-- a number that is w rotated by k bits is the one that the definition gives
pub is_rotate : {k w x : ℕ} → w < 65536 → Turned k w x → x ≡ rotate k w
is_rotate {k} {w} {x} h t = one_turn k w x (rotate k w) t (turned k h)

-- sixteen bits are a whole turn
pub rotate16 : {w : ℕ} → w < 65536 → rotate 16 w ≡ w
rotate16 {w} h = sym (is_rotate h (record { lt = h; null = λ e. e; pos = λ p. p; carry = w; sum = omega arith }))

-- the rotation as two shifts
module _ (k w : ℕ) (hk : k ≤ 16) (hw : w < 65536) where
  width : 16 - k + k ≡ 16
  width = omega arith

  low_part : w * 2 ^ k % 65536 ≡ w % 2 ^ (16 - k) * 2 ^ k
  low_part =
      ap (λ (n : ℕ). w * 2 ^ k % 2 ^ n) (sym width)
      ∙ mod-pow-add (w * 2 ^ k) (16 - k) k
      ∙ ap₂ (λ (x y : ℕ). x % 2 ^ (16 - k) * 2 ^ k + y) (shl-shr w k) (mul-mod_left w (2 ^ k))
      ∙ add-zero (w % 2 ^ (16 - k) * 2 ^ k)

  top_lt : w / 2 ^ (16 - k) < 2 ^ k
  top_lt = shr_lt k (16 - k) (subst (λ (n : ℕ). w < 2 ^ n) (sym width ∙ add_comm (16 - k) k) hw)

  span : 2 ^ (16 - k) * 2 ^ k ≡ 65536
  span = sym (pow-add 2 (16 - k) k) ∙ ap (λ (n : ℕ). 2 ^ n) width

  sum_shift : w % 2 ^ (16 - k) * 2 ^ k + w / 2 ^ (16 - k) + 65535 * (w / 2 ^ (16 - k)) ≡ 2 ^ k * w
  sum_shift =
      omega
      (arith, ap (λ (n : ℕ). w / 2 ^ (16 - k) * n) span, ap (λ (n : ℕ). 2 ^ k * n) (div-add-mod' w (2 ^ (16 - k))))

  turned_shift : Turned k w (w % 2 ^ (16 - k) * 2 ^ k + w / 2 ^ (16 - k))
  turned_shift =
      record {
        lt = subst (λ (n : ℕ). w % 2 ^ (16 - k) * 2 ^ k + w / 2 ^ (16 - k) < n) span (digits_lt (mod-lt w (pow_pos (16 - k))) top_lt);
        null = λ e. omega (arith, sum_shift, ap (λ (n : ℕ). 2 ^ k * n) e);
        pos = λ p. omega (arith, sum_shift, mul-le-mul_right w (pow_pos k));
        carry = w / 2 ^ (16 - k);
        sum = sum_shift;
      }

  pub shift_rotate : bit_or (w * 2 ^ k % 65536) (w / 2 ^ (16 - k)) ≡ rotate k w
  shift_rotate =
      ap (λ (x : ℕ). bit_or x (w / 2 ^ (16 - k))) low_part
      ∙ or_shifted (w % 2 ^ (16 - k)) k (w / 2 ^ (16 - k)) top_lt
      ∙ is_rotate hw turned_shift

pub shift_four : {w : ℕ} → w < 65536 → rotate 4 w ≡ w % 4096 * 16 + w / 4096
shift_four {w} h = sym (is_rotate h (turned_shift 4 w (omega arith) h))
