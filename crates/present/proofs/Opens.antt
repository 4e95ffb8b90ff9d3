-- Decrypting undoes encrypting, and encrypting undoes decrypting, for any round keys below 2 ^ 64.
use mathlib.Core.Path.{◌≡◌, refl, ap, ◌∙◌}
use Prim.Native.Nat.{ℕ, zero, suc, ◌-◌, ◌^◌, ◌≤◌, ◌<◌}
use native.Mathlib.Nat.{le_of_suc-le, le_refl}
use native.Mathlib.Omega.{arith}
use lib.Bits.{bit_xor, xor_lt}
use Rattle.octets.proofs.Xor.{xor_cancel}
use Rattle.present_rounds.specs.Layers.{add_round_key, s_box_layer, p_layer, inverse_sBox_layer, inverse_pLayer}
use Rattle.present.specs.Present.{round, after, encrypt, inverse_round, before, decrypt}
use Rattle.present_schedule.proofs.Keys.{Keys}
use Rattle.present_rounds.proofs.Layers.{s_box_layer_lt, p_layer_lt, inverse_sBox_layer_lt, inverse_pLayer_lt, inverse_s_box_layer, s_box_layer_inverse, inverse_p_layer, p_layer_inverse}

pub round_lt : (keys : ℕ → ℕ) (i s : ℕ) → round keys i s < 2 ^ 64
unfolding round
round_lt keys i s = p_layer_lt (s_box_layer (add_round_key s (keys i)))

pub inverse_round_lt : (keys : ℕ → ℕ) → Keys keys → (i : ℕ) → i ≤ 32 → (s : ℕ) → inverse_round keys i s < 2 ^ 64
unfolding inverse_round
inverse_round_lt keys good i l s = xor_lt 64 _ _ (inverse_sBox_layer_lt (inverse_pLayer s)) (good.at i l)

-- one round, taken back and done again
module _ (keys : ℕ → ℕ) (good : Keys keys) (i : ℕ) (l : i ≤ 32) (s : ℕ) (h : s < 2 ^ 64) where
  pub inverse_round_lem : inverse_round keys i (round keys i s) ≡ s
  unfolding round inverse_round
  inverse_round_lem =
      ap (λ (x : ℕ). bit_xor (inverse_sBox_layer x) (keys i)) (inverse_p_layer (s_box_layer (bit_xor s (keys i))) (s_box_layer_lt (bit_xor s (keys i))))
      ∙ ap (λ (x : ℕ). bit_xor x (keys i)) (inverse_s_box_layer (bit_xor s (keys i)) (xor_lt 64 _ _ h (good.at i l)))
      ∙ xor_cancel s (keys i)

  pub round_inverse : round keys i (inverse_round keys i s) ≡ s
  unfolding round inverse_round
  round_inverse =
      ap (λ (x : ℕ). p_layer (s_box_layer x)) (xor_cancel (inverse_sBox_layer (inverse_pLayer s)) (keys i))
      ∙ ap p_layer (s_box_layer_inverse (inverse_pLayer s) (inverse_pLayer_lt s))
      ∙ p_layer_inverse s h

pub decrypt_lt : (keys : ℕ → ℕ) → Keys keys → (s : ℕ) → decrypt keys s < 2 ^ 64
unfolding decrypt before
decrypt_lt keys good s = inverse_round_lt keys good 1 (omega arith) (before keys s 30)

module _ (keys : ℕ → ℕ) (good : Keys keys) (s : ℕ) (h : s < 2 ^ 64) where
  after_lt : (r : ℕ) → r ≤ 31 → after keys s r < 2 ^ 64
  unfolding after
  after_lt zero l = h
  after_lt (suc r) l = round_lt keys (suc r) (after keys s r)

  before_lt : (r : ℕ) → r ≤ 31 → before keys s r < 2 ^ 64
  unfolding before
  before_lt zero l = xor_lt 64 _ _ h (good.at 32 (le_refl 32))
  before_lt (suc r) l = inverse_round_lt keys good (32 - suc r) (omega arith) (before keys s r)

  pub encrypt_lt : encrypt keys s < 2 ^ 64
  unfolding encrypt
  encrypt_lt = xor_lt 64 _ _ (after_lt 31 (le_refl 31)) (good.at 32 (le_refl 32))

  -- r rounds taken back leave those before them
  taken_back_lem : (r : ℕ) → r ≤ 31 → before keys (encrypt keys s) r ≡ after keys s (31 - r)
  unfolding before encrypt after
  taken_back_lem zero l = xor_cancel (after keys s 31) (keys 32)
  taken_back_lem (suc r) l =
      let e : 31 - r ≡ suc (31 - suc r) = omega arith in
      let f : 32 - suc r ≡ suc (31 - suc r) = omega arith in
      ap (inverse_round keys (32 - suc r)) (taken_back_lem r (le_of_suc-le l) ∙ ap (after keys s) e)
      ∙ ap (λ (i : ℕ). inverse_round keys i (after keys s (suc (31 - suc r)))) f
      ∙ inverse_round_lem keys good (suc (31 - suc r)) (omega arith) (after keys s (31 - suc r)) (after_lt (31 - suc r) (omega arith))

  -- r rounds of what was taken back lead to what was taken back less far
  done_again : (r : ℕ) → r ≤ 31 → after keys (decrypt keys s) r ≡ before keys s (31 - r)
  unfolding after decrypt before
  done_again zero l = refl
  done_again (suc r) l =
      let e : 31 - r ≡ suc (31 - suc r) = omega arith in
      let f : suc r ≡ 32 - suc (31 - suc r) = omega arith in
      ap (round keys (suc r)) (done_again r (le_of_suc-le l) ∙ ap (before keys s) e)
      ∙ ap (λ (i : ℕ). round keys i (before keys s (suc (31 - suc r)))) f
      ∙ round_inverse keys good (32 - suc (31 - suc r)) (omega arith) (before keys s (31 - suc r)) (before_lt (31 - suc r) (omega arith))

  pub decrypt_encrypt : decrypt keys (encrypt keys s) ≡ s
  unfolding decrypt after
  decrypt_encrypt = taken_back_lem 31 (le_refl 31)

  pub encrypt_decrypt : encrypt keys (decrypt keys s) ≡ s
  unfolding encrypt before
  encrypt_decrypt = ap (λ (x : ℕ). bit_xor x (keys 32)) (done_again 31 (le_refl 31)) ∙ xor_cancel s (keys 32)
