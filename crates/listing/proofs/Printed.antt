-- What is printed is what its record says.
use Prim.Native.Nat.{ℕ, zero, suc, ◌+◌, ◌-◌, ◌*◌, ◌/◌, ◌%◌, ◌≤◌, ◌<◌}
use mathlib.Core.Path.{◌≡◌, refl, sym, ap, ◌∙◌, subst}
use mathlib.Core.Bool.{true, false}
use mathlib.Core.List.{List, [], ◌∷◌, ◌++◌, append_assoc}
use native.Mathlib.Decide.{dec_lt}
use native.Mathlib.Omega.{arith}
use borrow.Author.Tests.{le-leb, lt-leb}
use lib.ListN.{length, get_or, drop, get_or-append}
use Rattle.octets.specs.Bytes.{put}
use Rattle.listing.specs.Listing.{decimal, line, head_line, blank_line, written_line, slot_line, slot_lines, key_bits, listable, listing, listed}
use Rattle.listing.specs.Ascii.{ascii}
use Rattle.cipher.specs.Key.{key_bytes}
use Rattle.layout.specs.Layout.{edition_of, slots, key_class, last_write, mark, mark_number, mark_length, blank_slot}
use Rattle.listing.specs.Printed.{value_from, value, Printed}
use Rattle.listing.proofs.Decimal.{decimal_one, decimal_more, length_decimal_pos, length_decimal_more}
use Rattle.listing.proofs.Example.{written_example, listing_example, listing_example_2, written_4, written_6, written_8, written_21, written_24, no_bytes}

-- ---- digits

-- a digit more
value_more : (v : ℕ) (ds : List ℕ) (d : ℕ) → value_from v (ds ++ (d ∷ [])) ≡ 10 * value_from v ds + (d - 48)
unfolding value_from
value_more v [] d = refl
value_more v (e ∷ ds) d = value_more (10 * v + (e - 48)) ds d

one_value : (n : ℕ) → value ((48 + n) ∷ []) ≡ n
unfolding value_from
one_value n = omega arith

-- of numbers below k
value_below : (k n : ℕ) → n < k → value (decimal n) ≡ n
value_below zero n h = absurd (omega arith)
value_below (suc k) n h =
    elim (dec_lt n 10) [
      | yes l ↦ ap value (decimal_one n l) ∙ one_value n
      | no l ↦
          ap value (decimal_more n (omega arith))
          ∙ value_more 0 (decimal (n / 10)) (48 + n % 10)
          ∙ omega (arith, value_below k (n / 10) (omega arith))
    ]

last_digit : (ds : List ℕ) (d : ℕ) → get_or (ds ++ (d ∷ [])) (length ds) 0 ≡ d
last_digit [] d = refl
last_digit (e ∷ ds) d = last_digit ds d

-- a number from 48 to 57
abbrev Digit : ℕ → Type 0
Digit d = (48 ≤ d) × (d ≤ 57)

digit_below : (k n i : ℕ) → n < k → i < length (decimal n) → Digit (get_or (decimal n) i 0)
digit_below zero n i h l = absurd (omega arith)
digit_below (suc k) n i h l =
    elim (dec_lt n 10) [
      | yes g ↦ one g
      | no g ↦ more (omega arith) (λ q. digit_below k (n / 10) i (omega arith) q) (dec_lt i (length (decimal (n / 10))))
    ]
  where
    one : n < 10 → Digit (get_or (decimal n) i 0)
    one g =
        let e : length (decimal n) ≡ 1 = ap length (decimal_one n g) in
        let z : i ≡ 0 = omega (arith, e) in
        let f : get_or (decimal n) i 0 ≡ 48 + n = ap (λ (j : ℕ). get_or (decimal n) j 0) z ∙ ap (λ (s : List ℕ). get_or s 0 0) (decimal_one n g) in
        (omega (arith, f), omega (arith, f))

    more : 10 ≤ n → (i < length (decimal (n / 10)) → Digit (get_or (decimal (n / 10)) i 0)) → Dec (i < length (decimal (n / 10))) → Digit (get_or (decimal n) i 0)
    more g before (yes q) =
        subst Digit
        (sym (ap (λ (s : List ℕ). get_or s i 0) (decimal_more n g) ∙ get_or-append (decimal (n / 10)) ((48 + n % 10) ∷ []) 0 i q))
        (before q)
    more g before (no q) =
        let z : i ≡ length (decimal (n / 10)) = omega (arith, length_decimal_more n g) in
        let f : get_or (decimal n) i 0 ≡ 48 + n % 10 =
        ap (λ (s : List ℕ). get_or s i 0) (decimal_more n g)
        ∙ ap (λ (j : ℕ). get_or (decimal (n / 10) ++ ((48 + n % 10) ∷ [])) j 0) z
        ∙ last_digit (decimal (n / 10)) (48 + n % 10)
        in
        (omega (arith, f), omega (arith, f))

-- the first digit
first_below : (k n : ℕ) → n < k → 1 ≤ n → get_or (decimal n) 0 0 ≡ 48 → ⊥
first_below zero n h l e = omega arith
first_below (suc k) n h l e =
    elim (dec_lt n 10) [
      | yes g ↦ omega (arith, sym e ∙ ap (λ (s : List ℕ). get_or s 0 0) (decimal_one n g))
      | no g ↦
          first_below k (n / 10) (omega arith) (omega arith)
          (sym (get_or-append (decimal (n / 10)) ((48 + n % 10) ∷ []) 0 0 (length_decimal_pos (n / 10)))
          ∙ sym (ap (λ (s : List ℕ). get_or s 0 0) (decimal_more n (omega arith)))
          ∙ e)
    ]

zero_itself : decimal 0 ≡ 48 ∷ []
zero_itself = decimal_one 0 (omega arith)

-- ---- the call

put_start : (xs out : List ℕ) → put out 0 xs ≡ xs ++ drop (length xs) out
unfolding put
put_start xs out = ap (λ (k : ℕ). xs ++ drop k out) {x = 0 + length xs} {y = length xs} (omega arith)

put_whole : (s out : List ℕ) → length (listing s) ≤ length out → ◌≡◌ {A = ℕ × List ℕ} (listed s out) (length (listing s), listing s ++ drop (length (listing s)) out)
unfolding listed
put_whole s out h = rw (le-leb (length (listing s)) (length out) h, put_start (listing s) out)

put_nothing : (s out : List ℕ) → length out < length (listing s) → ◌≡◌ {A = ℕ × List ℕ} (listed s out) (0, out)
unfolding listed
put_nothing s out h = rw (lt-leb (length (listing s)) (length out) h)

bits_of : (s : List ℕ) (t : ℕ) → key_class s ≡ t → key_bits s ≡ 8 * key_bytes t
unfolding key_bits
bits_of s t h = rw h

bits : (s : List ℕ) → (key_class s ≡ 4 → key_bits s ≡ 64) × (key_class s ≡ 6 → key_bits s ≡ 96) × (key_class s ≡ 8 → key_bits s ≡ 128) × (key_class s ≡ 21 → key_bits s ≡ 80)
    × (key_class s ≡ 24 → key_bits s ≡ 128)
unfolding key_bytes
bits s = (bits_of s 4, bits_of s 6, bits_of s 8, bits_of s 21, bits_of s 24)

whole : (s : List ℕ) → listable s ≡ true → listing s ≡ head_line (slots s) (key_bits s) (last_write s) ++ slot_lines s (slots s)
unfolding listing
whole s h = rw h

first_line : (n bits w : ℕ) → head_line n bits w ≡ ascii "slots " ++ (decimal n ++ (ascii " key " ++ (decimal bits ++ (ascii " last " ++ (decimal w ++ ascii "\n")))))
unfolding head_line line
first_line n bits w = simp append_assoc

blank_line_lem : (s : List ℕ) (i : ℕ) → blank_slot (edition_of s) s i ≡ true → slot_line s i ≡ decimal i ++ ascii " blank\n"
unfolding slot_line blank_line line
blank_line_lem s i h = rw h (simp append_assoc)

written_line_lem : (s : List ℕ) (i : ℕ) → blank_slot (edition_of s) s i ≡ false
    → slot_line s i ≡ decimal i ++ (ascii " written " ++ (decimal (mark_number (mark (edition_of s) s i)) ++ (ascii " " ++ (decimal (mark_length (mark (edition_of s) s i)) ++ ascii "\n"))))
unfolding slot_line written_line line
written_line_lem s i h = rw h (simp append_assoc)

pub printed : Printed
unfolding slot_lines
printed =
    record {
      digits_value = λ n. value_below (suc n) n (omega arith);
      digits_are = λ n i. digit_below (suc n) n i (omega arith);
      no_zero_ahead = λ n. first_below (suc n) n (omega arith);
      zero_itself = zero_itself;
      line_1 = written_example;
      blank_1 = listing_example;
      blank_2 = listing_example_2;
      written_4 = written_4;
      written_6 = written_6;
      written_8 = written_8;
      written_21 = written_21;
      written_24 = written_24;
      bits = bits;
      whole = whole;
      first_line = first_line;
      no_line = λ s. refl;
      next_line = λ s i. refl;
      blank_line_lem = blank_line_lem;
      written_line_lem = written_line_lem;
      no_bytes = no_bytes;
      put_whole = put_whole;
      put_nothing = put_nothing;
    }
