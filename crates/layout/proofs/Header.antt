-- Laws of the header's fields and its rule, one for each way out of a function that decides them.
use mathlib.Core.Path.{◌≡◌, refl, sym, ap, ◌∙◌}
use mathlib.Core.Bool.{Bool, true, false, ◌&&◌, ◌||◌, false≢true}
use mathlib.Core.List.{List}
use mathlib.Core.Logic.{◌⊎◌, ⊎_elim}
use Prim.Native.Nat.{ℕ, ◌+◌, ◌≤◌, ◌<◌}
use native.Mathlib.Omega.{arith}
use borrow.Author.Tests.{eq-eqb, ne_eqb, eqb-true, eqb-false, leb-true, le-leb}
use lib.Dec.{eqb, leb}
use lib.ListN.{length, get_or}
use Rattle.octets.specs.Bytes.{if◌then◌otherwise◌, Bytes, number, part, all_zero}
use Rattle.octets.proofs.Bool.{and_left, and_right, and_both}
use Rattle.octets.proofs.Parts.{tab_part}
use Rattle.octets.proofs.Numbers.{number_part_lt}
use Rattle.cipher.specs.Key.{mcrypton_class, class_known}
use Rattle.cipher.proofs.Promise.{mcrypton_known}
use Rattle.layout.specs.declared.Shape.{Shape}
use Rattle.layout.specs.Layout.{Edition, edition1, edition2, edition3, slots, key_class, edition_byte, last_write, serial, edition_of, rule1, rule2, rule3, slot_count, sheet_size}
use Rattle.layout.specs.Shape.{has_serial, shape_of}

-- ---- one byte as a number

pub number_one : (s : List ℕ) (a : ℕ) → a + 1 ≤ length s → number (part s a 1) ≡ get_or s a 0
unfolding number
number_one s a h = rw (← tab_part 1 a s h) (omega arith)

pub class_read : (s : List ℕ) (x : ℕ) → 8 ≤ length s → x ≡ get_or s 2 0 → x ≡ key_class s
unfolding key_class
class_read s x h e = e ∙ sym (number_one s 2 (omega arith))

pub edition_read : (s : List ℕ) (x : ℕ) → 8 ≤ length s → x ≡ get_or s 3 0 → x ≡ edition_byte s
unfolding edition_byte
edition_read s x h e = e ∙ sym (number_one s 3 (omega arith))

-- ---- the count of slots

pub count_low : (n : ℕ) → slot_count n ≡ true → 1 ≤ n
unfolding slot_count
count_low n e = leb-true 1 n (and_left (leb 1 n) (leb n 256) e)

pub count_high : (n : ℕ) → slot_count n ≡ true → n ≤ 256
unfolding slot_count
count_high n e = leb-true n 256 (and_right (leb 1 n) (leb n 256) e)

pub count_within : (n : ℕ) → 1 ≤ n → n ≤ 256 → slot_count n ≡ true
unfolding slot_count
count_within n l g = and_both (leb 1 n) (leb n 256) (le-leb 1 n l) (le-leb n 256 g)

-- ---- the header's numbers

module _ (s : List ℕ) (b : Bytes s) (h : 8 ≤ length s) where
  pub slots_below : slots s < 65536
  unfolding slots
  slots_below = number_part_lt s 0 2 (omega arith) b

  pub class_below : key_class s < 256
  unfolding key_class
  class_below = number_part_lt s 2 1 (omega arith) b

  pub last_below : last_write s < 4294967296
  unfolding last_write
  last_below = number_part_lt s 4 4 (omega arith) b

-- ---- the edition

-- by cases of the edition; beside this law only those look into the choice that say that sheets with one byte 3 have one edition
pub edition_cases : (P : Edition → Type 0) (s : List ℕ) → ((edition_byte s ≡ 2 → ⊥) → (edition_byte s ≡ 3 → ⊥) → P edition1)
    → (edition_byte s ≡ 2 → P edition2) → (edition_byte s ≡ 3 → P edition3) → P (edition_of s)
unfolding edition_of
edition_cases P s one two three = go (eqb (edition_byte s) 2) (eqb (edition_byte s) 3) refl refl
  where
    go : (b c : Bool) → eqb (edition_byte s) 2 ≡ b → eqb (edition_byte s) 3 ≡ c → P (if b then edition2 otherwise if c then edition3 otherwise edition1)
    go true c h g = two (eqb-true (edition_byte s) 2 h)
    go false true h g = three (eqb-true (edition_byte s) 3 g)
    go false false h g = one (eqb-false (edition_byte s) 2 h) (eqb-false (edition_byte s) 3 g)

pub edition_three : (s : List ℕ) → edition_byte s ≡ 3 → edition_of s ≡ edition3
edition_three s h = edition_cases (λ e. e ≡ edition3) s (λ f g. absurd (g h)) (λ g. absurd (omega (arith, g, h))) (λ g. refl)

pub edition_two : (s : List ℕ) → edition_byte s ≡ 2 → edition_of s ≡ edition2
edition_two s h = edition_cases (λ e. e ≡ edition2) s (λ f g. absurd (f h)) (λ g. refl) (λ g. absurd (omega (arith, g, h)))

pub edition_one : (s : List ℕ) → (edition_byte s ≡ 2 → ⊥) → (edition_byte s ≡ 3 → ⊥) → edition_of s ≡ edition1
edition_one s h k = edition_cases (λ e. e ≡ edition1) s (λ f g. refl) (λ g. absurd (h g)) (λ g. absurd (k g))

-- a header is small in every edition
pub header_small : (s : List ℕ) → (edition_of s).header ≤ 16
header_small s = edition_cases (λ e. e.header ≤ 16) s (λ f g. omega arith) (λ h. omega arith) (λ h. omega arith)

pub header_holds : (s : List ℕ) → 8 ≤ (edition_of s).header
header_holds s = edition_cases (λ e. 8 ≤ e.header) s (λ f g. omega arith) (λ h. omega arith) (λ h. omega arith)

-- the editions with a serial
pub serial_cases : (P : Edition → Type 0) (s : List ℕ) → has_serial (edition_byte s) ≡ true → P edition2 → P edition3 → P (edition_of s)
unfolding has_serial
serial_cases P s h two three =
    edition_cases P s (λ f g. absurd (false≢true (rw (ne_eqb (edition_byte s) 2 f, ne_eqb (edition_byte s) 3 g) at h))) (λ g. two) (λ g. three)

pub no_serial : (s : List ℕ) → has_serial (edition_byte s) ≡ false → edition_of s ≡ edition1
unfolding has_serial
no_serial s h = go (eqb (edition_byte s) 2) (eqb (edition_byte s) 3) refl refl h
  where
    go : (b c : Bool) → eqb (edition_byte s) 2 ≡ b → eqb (edition_byte s) 3 ≡ c → b || c ≡ false → edition_of s ≡ edition1
    go true c p q r = absurd (false≢true (sym r))
    go false true p q r = absurd (false≢true (sym r))
    go false false p q r = edition_one s (eqb-false (edition_byte s) 2 p) (eqb-false (edition_byte s) 3 q)

pub header_long : (s : List ℕ) → (edition_of s).header ≤ length s → 8 ≤ length s
header_long s h = omega (arith, header_holds s)

pub rule_classes : (s : List ℕ) → (edition_of s).rule s ≡ true → (edition_of s).classes (key_class s) ≡ true
unfolding rule1 rule2 rule3
rule_classes s =
    edition_cases (λ e. e.rule s ≡ true → e.classes (key_class s) ≡ true) s
    (λ f g. and_left (mcrypton_class (key_class s)) _) (λ g. and_left (mcrypton_class (key_class s)) _) (λ g. and_left (class_known (key_class s)) _)

pub rule_class : (s : List ℕ) → (edition_of s).rule s ≡ true → class_known (key_class s) ≡ true
rule_class s h =
    edition_cases (λ e. e.classes (key_class s) ≡ true → class_known (key_class s) ≡ true) s
    (λ f g. mcrypton_known (key_class s)) (λ g. mcrypton_known (key_class s)) (λ g c. c) (rule_classes s h)

-- the classes: x is what was read of byte 2, y of byte 3
module _ (s : List ℕ) (l : 8 ≤ length s) (x : ℕ) (e : x ≡ get_or s 2 0) (y : ℕ) (g : y ≡ get_or s 3 0) (r : Bool) where
  pub classes_three : y ≡ 3 → r ≡ class_known x → r ≡ (edition_of s).classes (key_class s)
  classes_three q f = f ∙ rw (edition_three s (sym (edition_read s y l g) ∙ q), class_read s x l e)

  pub classes_other : (y ≡ 3 → ⊥) → r ≡ mcrypton_class x → r ≡ (edition_of s).classes (key_class s)
  classes_other q f =
      f ∙ rw (class_read s x l e)
      (edition_cases (λ d. mcrypton_class (key_class s) ≡ d.classes (key_class s)) s (λ u v. refl) (λ u. refl) (λ u. absurd (q (edition_read s y l g ∙ u))))

-- y is what was read of byte 3, k what was found of it
module _ (s : List ℕ) (h : 8 ≤ length s) (y : ℕ) (e : y ≡ get_or s 3 0) (k : Bool) (f : k ≡ has_serial y) where
  serial_found : has_serial (edition_byte s) ≡ k
  serial_found = rw (← edition_read s y h e, f)

  pub size_two : k ≡ true → 16 ≡ (edition_of s).header
  size_two q = serial_cases (λ d. 16 ≡ d.header) s (serial_found ∙ q) refl refl

  pub size_one : k ≡ false → 8 ≡ (edition_of s).header
  size_one q = rw (no_serial s (serial_found ∙ q))

module _ (s : List ℕ) (l : (edition_of s).header ≤ length s) where
  pub header_byte : 3 < length s
  header_byte = omega (arith, l, header_holds s)

  pub class_byte : 2 < length s
  class_byte = omega (arith, l, header_holds s)

  pub slots_bytes : 0 + 2 ≤ length s
  slots_bytes = omega (arith, l, header_holds s)

  -- y is what was read of byte 3
  module _ (y : ℕ) (e : y ≡ get_or s 3 0) where
    is_two : y ≡ 2 → edition_of s ≡ edition2
    is_two q = edition_two s (sym (edition_read s y (header_long s l) e) ∙ q)

    is_three : y ≡ 3 → edition_of s ≡ edition3
    is_three q = edition_three s (sym (edition_read s y (header_long s l) e) ∙ q)

    is_one : (y ≡ 2 → ⊥) → (y ≡ 3 → ⊥) → edition_of s ≡ edition1
    is_one q r = edition_one s (λ p. q (edition_read s y (header_long s l) e ∙ p)) (λ p. r (edition_read s y (header_long s l) e ∙ p))

    pub two_long : y ≡ 2 → 16 ≤ length s
    two_long q = rw (is_two q) at l

    -- k is what was found of it
    module _ (k : Bool) (f : k ≡ has_serial y) where
      has : k ≡ true → has_serial (edition_byte s) ≡ true
      has q = serial_found s (header_long s l) y e k f ∙ q

      pub serial_inside : k ≡ true → (a n : ℕ) → a + n ≤ 16 → a + n ≤ length s
      serial_inside q a n h = omega (arith, serial_cases (λ d. d.header ≤ length s → 16 ≤ length s) s (has q) (λ g. g) (λ g. g) l)

      pub tail_two : k ≡ true → (x : ℕ) → x ≡ number (part s 8 2) → x ≡ (edition_of s).tail s
      unfolding serial
      tail_two q x g = g ∙ serial_cases (λ d. number (part s 8 2) ≡ d.tail s) s (has q) refl refl

      pub tail_one : k ≡ false → 0 ≡ (edition_of s).tail s
      tail_one q = rw (no_serial s (serial_found s (header_long s l) y e k f ∙ q))

  -- the edition's rule: k is what was found of byte 2
  module _ (k : Bool) (f : k ≡ (edition_of s).classes (key_class s)) where
    pub rule_other : k ≡ false → false ≡ (edition_of s).rule s
    unfolding rule1 rule2 rule3
    rule_other t = edition_cases (λ (d : Edition). d.classes (key_class s) ≡ false → false ≡ d.rule s) s (λ f g h. rw h) (λ g h. rw h) (λ g h. rw h) (sym f ∙ t)

    module _ (t : k ≡ true) (y : ℕ) (g : y ≡ get_or s 3 0) where
      class_found : (d : Edition) → edition_of s ≡ d → d.classes (key_class s) ≡ true
      class_found d q = ap (λ (d : Edition). d.classes (key_class s)) (sym q) ∙ sym f ∙ t

      pub rule_two : y ≡ 2 → (r : Bool) → r ≡ all_zero (part s 10 6) → r ≡ (edition_of s).rule s
      unfolding rule2
      rule_two q r u = u ∙ rw (is_two y g q, class_found edition2 (is_two y g q), ← edition_read s y (header_long s l) g, eq-eqb y 2 q)

      pub rule_three : y ≡ 3 → true ≡ (edition_of s).rule s
      unfolding rule3
      rule_three q = rw (is_three y g q, class_found edition3 (is_three y g q), ← edition_read s y (header_long s l) g, eq-eqb y 3 q)

      pub rule_one : (y ≡ 2 → ⊥) → (y ≡ 3 → ⊥) → eqb y 1 ≡ (edition_of s).rule s
      unfolding rule1
      rule_one q r = rw (is_one y g q r, class_found edition1 (is_one y g q r), ← edition_read s y (header_long s l) g)

      pub rule_known : (y ≡ 1) ⊎ (y ≡ 3) → true ≡ (edition_of s).rule s
      rule_known = ⊎_elim (λ q. sym (eq-eqb y 1 q) ∙ rule_one (λ p. omega (arith, p, q)) (λ p. omega (arith, p, q))) rule_three

      pub rule_none : (y ≡ 1 → ⊥) → (y ≡ 2 → ⊥) → (y ≡ 3 → ⊥) → false ≡ (edition_of s).rule s
      rule_none n q r = sym (ne_eqb y 1 n) ∙ rule_one q r

-- ---- the size: n is what was read of bytes 0 and 1, r what was found of it

module _ (s : List ℕ) (n : ℕ) (e : n ≡ number (part s 0 2)) (r : Bool) (f : r ≡ slot_count n) where
  pub size_count : r ≡ false → false ≡ slot_count (slots s) && eqb (length s) (sheet_size (edition_of s).header (slots s))
  unfolding slots
  size_count t = rw (← e, ← f, t)

  module _ (t : r ≡ true) (m : ℕ) (g : m ≡ (edition_of s).header) where
    pub count_few : n ≤ 256
    count_few = count_high n (sym f ∙ t)

    pub size_few : m ≤ 16
    size_few = rw g (header_small s)

    pub size_found : (z : ℕ) → z ≡ sheet_size m n → eqb (length s) z ≡ slot_count (slots s) && eqb (length s) (sheet_size (edition_of s).header (slots s))
    unfolding slots
    size_found z q = rw (← e, ← f, t, q, g)

-- ---- the shape

pub shape_read : (s : List ℕ) (a n t b : ℕ) → (edition_of s).header ≤ length s → a ≡ (edition_of s).header → n ≡ number (part s 0 2) → t ≡ get_or s 2 0 → b ≡ (edition_of s).tail s
    → ◌≡◌ {A = Shape} (record { header = a; slots = n; class = t; tail = b }) (shape_of s)
unfolding shape_of slots
shape_read s a n t b h d e f g = rw (d, e, class_read s t (header_long s h) f, g)
