-- Laws of digits put into a buffer, and of what stands at the start of one.
use Prim.Native.Nat.{ℕ, ◌+◌, ◌/◌, ◌%◌, ◌≤◌, ◌<◌}
use mathlib.Core.Path.{◌≡◌, sym, ap, ◌∙◌}
use mathlib.Core.List.{List, [], ◌∷◌, ◌++◌}
use native.Mathlib.Omega.{arith}
use lib.ListN.{length, set, take, length-append}
use Rattle.octets.specs.Bytes.{put}
use Rattle.octets.proofs.Parts.{set_put, put_put, length_put, take_put}
use Rattle.listing.specs.Listing.{decimal, ended}
use Rattle.listing.specs.Appended.{Appended}
use Rattle.listing.proofs.Decimal.{decimal_one, decimal_more, length_decimal_more}

-- one text after another
pub append_then : (j k : ℕ) (l m x xs ys : List ℕ) (a e r : ℕ) → a + (j + k) ≤ length l
    → Appended j l a xs e m → Appended k m e ys r x → Appended (j + k) l a (xs ++ ys) r x
append_then j k l m x xs ys a e r h p q =
    record {
      bytes = q.bytes ∙ rw (p.bytes, p.next) (put_put l xs ys a (omega (arith, p.within, p.next, q.within, q.next)));
      next = omega (arith, p.next, q.next, length-append xs ys);
      within = omega (arith, p.within, q.within);
    }

-- one byte after a text
pub append_byte : (k : ℕ) (l m xs : List ℕ) (a e b : ℕ) → a + (k + 1) ≤ length l
    → Appended k l a xs e m → Appended (k + 1) l a (ended xs b) (e + 1) (set m e b)
append_byte k l m xs a e b h p =
    let size : length m ≡ length l = ap length p.bytes ∙ length_put l xs a (omega (arith, p.within, p.next)) in
    append_then k 1 l m (set m e b) xs (b ∷ []) a e (e + 1) h p
    (record { bytes = set_put m e b (omega (arith, p.within)); next = omega arith; within = omega arith })

-- the digits of x: one, and more
pub append_digit : (l : List ℕ) (a x : ℕ) → x < 10 → a + length (decimal x) ≤ length l
    → Appended (length (decimal x)) l a (decimal x) (a + 1) (set l a (48 + x))
append_digit l a x h g =
    let d : decimal x ≡ (48 + x) ∷ [] = decimal_one x h in
    let n : length (decimal x) ≡ 1 = ap length d in
    record {
      bytes = set_put l a (48 + x) (omega arith) ∙ ap (put l a) (sym d);
      next = omega arith;
      within = omega arith;
    }

pub append_digits : (l m : List ℕ) (a e x : ℕ) → 10 ≤ x → a + length (decimal x) ≤ length l
    → Appended (length (decimal (x / 10))) l a (decimal (x / 10)) e m
    → Appended (length (decimal x)) l a (decimal x) (e + 1) (set m e (48 + x % 10))
append_digits l m a e x h g p =
    let n : length (decimal x) ≡ length (decimal (x / 10)) + 1 = length_decimal_more x h in
    rw (n, decimal_more x h) (append_byte (length (decimal (x / 10))) l m (decimal (x / 10)) a e (48 + x % 10) (omega arith) p)

-- ---- a text v, which is the first a bytes of l

pub text_put : (l v xs m : List ℕ) (a r : ℕ) → take a l ≡ v → a + length xs ≤ length l → r ≡ a + length xs → m ≡ put l a xs → take r m ≡ v ++ xs
text_put l v xs m a r e h f g = rw (f, g, take_put l xs a h, e)
