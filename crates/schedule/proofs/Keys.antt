-- A nibble of T by itself.
use mathlib.Core.Path.{◌≡◌, sym, ap, ap₂, ◌∙◌}
use Prim.Native.Nat.{ℕ, ◌*◌, ◌<◌}
use native.Mathlib.Omega.{arith}
use lib.Bits.{bit_xor}
use Rattle.rounds.specs.Word.{row, nibble}
use Rattle.rounds.specs.Array.{sbox}
use Rattle.rounds.proofs.Blocks.{nibble_lt, nibble_row, sbox_lt, nibble_xor}
use mathlib.Core.List.{[], ◌∷◌}
use lib.ListN.{get_or}
use Rattle.schedule.specs.declared.Register.{Register}
use Rattle.schedule.specs.Schedule.{sub_word, register_t, last_word, round_key}

four : (c : ℕ) → c * 0x1111 ≡ row (λ i. c)
four c = omega arith

digit : (c : ℕ) → c < 16 → (i : ℕ) → i < 4 → nibble (c * 0x1111) i ≡ c
digit c h i l = ap (λ (x : ℕ). nibble x i) (four c) ∙ nibble_row (λ i. c) (λ i. h) i l

pub t_nibble_is : (w c i : ℕ) → c < 16 → i < 4 → bit_xor (sbox 0 (nibble w i)) c ≡ nibble (bit_xor (sub_word w) (c * 0x1111)) i
t_nibble_is w c i h l = sym (nibble_xor (sub_word w) (c * 0x1111) i
    ∙ ap₂ bit_xor (nibble_row (λ i. sbox 0 (nibble w i)) (λ i. sbox_lt 0 (nibble w i) (nibble_lt w i)) i l) (digit c h i l))

pub round_key_is : (u : Register) {p q r s l : ℕ} → p ≡ nibble (register_t u) 0 → q ≡ nibble (register_t u) 1 → r ≡ nibble (register_t u) 2
    → l ≡ last_word u → s ≡ nibble (register_t u) 3
    → bit_xor (get_or u.words 1 0) (p * 4096) ∷ bit_xor (get_or u.words 2 0) (q * 256) ∷ bit_xor (get_or u.words 3 0) (r * 16) ∷ bit_xor l (s * 1) ∷ []
    ≡ round_key u
unfolding round_key
round_key_is u p q r l s = rw (p, q, r, l, s)
