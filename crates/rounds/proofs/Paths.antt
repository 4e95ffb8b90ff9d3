-- The word path: the rule of the tables, and the two meanings of a round agree.
use mathlib.Core.Path.{◌≡◌, refl, sym, ap, ap₂, ◌∙◌}
use mathlib.Core.List.{List, [], ◌∷◌}
use Prim.Native.Nat.{ℕ, ◌+◌, ◌*◌, ◌%◌, ◌<◌}
use native.Mathlib.Omega.{arith}
use lib.Bits.{bit_and, bit_xor, xor_block, xor_lt}
use lib.Dec.{lit<}
use lib.ListN.{get_or}
use Rattle.octets.proofs.Test.{agree2}
use Rattle.rounds.specs.Word.{rotate1, rotate, row, xor4}
use Rattle.rounds.specs.Array.{cell, sboxes, sbox, offset, mask, γ, π, τ, σ, nibble_round, tables, turned, entry, word_row, word_round}
use Rattle.rounds.specs.Lookup.{first_mask, rule_entry, Lookup}
use Rattle.rounds.specs.declared.Direction.{Direction}
use Rattle.rounds.specs.declared.Direction.TheVariants.{Encrypt, Decrypt}
use Rattle.rounds.proofs.Xor4.{xor4_ext}
use Rattle.rounds.proofs.Blocks.{row_ext, cell_π, cell_γ, cell_lt, sbox_lt, masked_lt}

-- each index is taken modulo 4
period : (n : ℕ) → n % 4 % 4 ≡ n % 4
period n = omega arith

mask_at : (m n : ℕ) → m % 4 ≡ n % 4 → mask m ≡ mask n
mask_at m n e = ap (λ (i : ℕ). get_or (0xe ∷ 0xd ∷ 0xb ∷ 0x7 ∷ []) i 0) e

-- the rule of the four tables, entry by entry
four_tables : (d : Direction) (s x : ℕ) → s < 4 → x < 16 → entry d s x ≡ rule_entry d s x
unfolding entry tables sbox sboxes rotate rotate1
four_tables Encrypt = agree2 4 16 (entry Encrypt) (rule_entry Encrypt) tt
four_tables Decrypt = agree2 4 16 (entry Decrypt) (rule_entry Decrypt) tt

table_rule : (d : Direction) (s x : ℕ) → x < 16 → entry d s x ≡ rule_entry d s x
unfolding entry sbox
table_rule d s x h =
    ap (λ (i : ℕ). turned d (get_or (get_or tables i []) x 0)) (sym (period s))
    ∙ four_tables d (s % 4) x (omega arith) h
    ∙ row_ext (λ j hj. ap₂ bit_and (ap (λ (i : ℕ). get_or (get_or sboxes i []) x 0) (period s)) (mask_at (s % 4 + j + first_mask d) (s + j + first_mask d) (omega arith)))

pub lookup : Lookup
unfolding entry
lookup = record { rule = table_rule; turn = λ s x. refl }

-- what nibble k of column i adds to the new row i: for decryption the S-box is two on and the first mask two on from there, which is m_(i + k) again
column : (d : Direction) (i k x : ℕ) → x < 16
    → row (λ j. bit_and (sbox (i + k + offset d) x) (mask (i + j + k))) ≡ entry d (i + k + offset d) x
column d i k x h = row_ext (λ j hj. ap (bit_and (sbox (i + k + offset d) x)) (mask_at _ _ (on d j))) ∙ sym (table_rule d (i + k + offset d) x h)
  where
    on : (d : Direction) (j : ℕ) → (i + j + k) % 4 ≡ (i + k + offset d + j + first_mask d) % 4
    on Encrypt j = omega arith
    on Decrypt j = omega arith

row_xor : (f g : ℕ → ℕ) → ((j : ℕ) → f j < 16) → ((j : ℕ) → g j < 16) → row (λ j. bit_xor (f j) (g j)) ≡ bit_xor (row f) (row g)
row_xor f g hf hg =
    sym
    (xor_block 4 ((f 0 * 16 + f 1) * 16 + f 2) ((g 0 * 16 + g 1) * 16 + g 2) (f 3) (g 3) (hf 3) (hg 3)
    ∙ ap (λ (x : ℕ). x * 16 + bit_xor (f 3) (g 3))
    (xor_block 4 (f 0 * 16 + f 1) (g 0 * 16 + g 1) (f 2) (g 2) (hf 2) (hg 2)
    ∙ ap (λ (x : ℕ). x * 16 + bit_xor (f 2) (g 2)) (xor_block 4 (f 0) (g 0) (f 1) (g 1) (hf 1) (hg 1))))

row_xor4 : (f : ℕ → ℕ → ℕ) → ((k j : ℕ) → f k j < 16) → row (λ j. xor4 (λ k. f k j)) ≡ xor4 (λ k. row (f k))
row_xor4 f h =
    row_xor (λ j. bit_xor (f 0 j) (f 1 j)) (λ j. bit_xor (f 2 j) (f 3 j)) (λ j. xor_lt 4 _ _ (h 0 j) (h 1 j)) (λ j. xor_lt 4 _ _ (h 2 j) (h 3 j))
    ∙ ap₂ bit_xor (row_xor (f 0) (f 1) (h 0) (h 1)) (row_xor (f 2) (f 3) (h 2) (h 3))

new_row : (d : Direction) (a : List ℕ) (i : ℕ) → i < 4 → row (λ j. cell (π (γ d a)) j i) ≡ word_row d a i
unfolding word_row
new_row d a i hi =
    row_ext (λ j hj.
    cell_π (γ d a) j i hj hi
    ∙ xor4_ext (λ k hk. ap (λ (x : ℕ). bit_and x (mask (i + j + k))) (cell_γ a k i hk hi d)))
    ∙ row_xor4 (λ k j. bit_and (sbox (i + k + offset d) (cell a k i)) (mask (i + j + k)))
    (λ k j. masked_lt (sbox (i + k + offset d) (cell a k i)) (mask (i + j + k)) (sbox_lt (i + k + offset d) (cell a k i) (cell_lt a k i)))
    ∙ xor4_ext (λ k hk. column d i k (cell a k i) (cell_lt a k i))

pub same_round : (d : Direction) (k a : List ℕ) → word_round d k a ≡ nibble_round d k a
unfolding τ
same_round d k a =
    ap (σ k) (sym (λ i. new_row d a 0 (lit< tt) i ∷ new_row d a 1 (lit< tt) i ∷ new_row d a 2 (lit< tt) i ∷ new_row d a 3 (lit< tt) i ∷ []))
