-- One turn of the loops that encrypt and decrypt.
use mathlib.Core.Path.{◌≡◌, refl, sym, ap, ap₂, ◌∙◌}
use mathlib.Core.Bool.{Bool}
use mathlib.Core.List.{List, [], ◌∷◌, map, map-map}
use Prim.Native.Nat.{ℕ, zero, suc, ◌+◌, ◌-◌, ◌≤◌, ◌<◌}
use native.Mathlib.Nat.{le_refl, le_of_suc-le}
use native.Mathlib.Numerals.{add-one}
use native.Mathlib.Omega.{arith}
use lib.Bits.{bit_xor}
use lib.ListN.{get_or}
use Rattle.octets.specs.Bytes.{be, number}
use Rattle.octets.proofs.Each.{map_same}
use Rattle.present_rounds.specs.Layers.{s_box_layer, p_layer, inverse_sBox_layer, inverse_pLayer}
use Rattle.present.specs.Present.{round, after, encrypt, inverse_round, before, decrypt}
use Rattle.present_schedule.specs.Registers.{KeyRegister, round_key, keys_from, MovedKeys}
use Rattle.present.specs.Registers.{register_of, decrypt_words}
use Rattle.present_rounds.proofs.Layers.{p_layer_inverse, inverse_pLayer_xor}
use Rattle.present_schedule.proofs.Steps.{At, key_at}
use Rattle.present_schedule.proofs.Keys.{Keys}
use Rattle.present.proofs.Opens.{decrypt_lt}

-- ---- encryption

pub encrypt_more : {u v : KeyRegister} {x s s' : ℕ} (b r : ℕ) → At u r v → x ≡ round_key v → s ≡ after (keys_from u) b r → s' ≡ p_layer (s_box_layer (bit_xor s x))
    → s' ≡ after (keys_from u) b (r + 1)
unfolding after round
encrypt_more {u} b r a k h g = rw add-one (g ∙ ap₂ (λ (x y : ℕ). p_layer (s_box_layer (bit_xor x y))) h (key_at r a k ∙ ap (keys_from u) (add-one r)))

pub encrypt_ended : {u v : KeyRegister} {x s : ℕ} (b r : ℕ) → r ≡ 31 → At u r v → x ≡ round_key v → s ≡ after (keys_from u) b r
    → bit_xor s x ≡ encrypt (keys_from u) b
unfolding encrypt
encrypt_ended {u} b r q a k h =
    ap₂ bit_xor (h ∙ ap (after (keys_from u) b) q) (key_at r a k ∙ ap (λ (n : ℕ). keys_from u (n + 1)) q)

-- ---- decryption: s is the inverse of pLayer on the state

-- r rounds with the keys of the list k, from s
unfoldable pub turned : List ℕ → ℕ → ℕ → ℕ
turned k s zero = s
turned k s (suc r) = bit_xor (inverse_pLayer (inverse_sBox_layer (turned k s r))) (get_or k (30 - r) 0)

-- one round more, where r of the 31 are left
pub turned_more : (k : List ℕ) (s₀ : ℕ) {g s : ℕ} (r : ℕ) → 0 < r → r ≤ 31 → s ≡ turned k s₀ (31 - r) → g ≡ inverse_pLayer (inverse_sBox_layer s)
    → bit_xor g (get_or k (r - 1) 0) ≡ turned k s₀ (31 - (r - 1))
unfolding turned
turned_more k s₀ r p l h e =
    let i : 31 - (r - 1) ≡ suc (31 - r) = omega arith in
    let j : 30 - (31 - r) ≡ r - 1 = omega arith in
    rw (i, e, h, j) refl

module _ {u : KeyRegister} {k : List ℕ} (m : MovedKeys u k) (good : Keys (keys_from u)) (c : ℕ) where
  -- the state before the first round
  abbrev first : ℕ
  first = bit_xor (inverse_pLayer c) (get_or k 31 0)

  turned_back : (r : ℕ) → r ≤ 31 → turned k first r ≡ inverse_pLayer (before (keys_from u) c r)
  unfolding turned before inverse_round
  turned_back zero l = ap (bit_xor (inverse_pLayer c)) (m.at 31 (omega arith)) ∙ sym (inverse_pLayer_xor c (keys_from u 32))
  turned_back (suc r) l =
      let q : 30 - r + 1 ≡ 32 - suc r = omega arith in
      ap₂ (λ (x y : ℕ). bit_xor (inverse_pLayer (inverse_sBox_layer x)) y) (turned_back r (le_of_suc-le l)) (m.at (30 - r) (omega arith) ∙ ap (λ (n : ℕ). inverse_pLayer (keys_from u n)) q)
      ∙ sym (inverse_pLayer_xor (inverse_sBox_layer (inverse_pLayer (before (keys_from u) c r))) (keys_from u (32 - suc r)))

  -- from before the loop to after it
  pub decrypted : p_layer (turned k first 31) ≡ decrypt (keys_from u) c
  unfolding decrypt
  decrypted = ap p_layer (turned_back 31 (le_refl 31)) ∙ p_layer_inverse (before (keys_from u) c 31) (decrypt_lt (keys_from u) good c)

-- ---- the same on each state of a list

pub each_begun : (k a : List ℕ) → a ≡ map (λ s. turned k s 0) a
unfolding turned
each_begun k [] = refl
each_begun k (s ∷ a) = ap (λ (l : List ℕ). s ∷ l) (each_begun k a)

pub each_more : (k a₀ : List ℕ) {a a' : List ℕ} (r : ℕ) → 0 < r → r ≤ 31 → a ≡ map (λ s. turned k s (31 - r)) a₀ → a' ≡ map (λ s. bit_xor (inverse_pLayer (inverse_sBox_layer s)) (get_or k (r - 1) 0)) a
    → a' ≡ map (λ s. turned k s (31 - (r - 1))) a₀
each_more k a₀ r p l h e = e ∙ rw h (map-map _ _ a₀) ∙ map_same _ _ (λ s. turned_more k s r p l refl refl) a₀

pub each_decrypted : {u : KeyRegister} {k a₀ a : List ℕ} {z : List (List ℕ)} (wide : Bool) (w : List ℕ) (b : List (List ℕ)) (r : ℕ) → r ≡ 0
    → u ≡ register_of wide w → MovedKeys u k → Keys (keys_from u) → a₀ ≡ map (λ x. bit_xor (inverse_pLayer (number x)) (get_or k 31 0)) b
    → a ≡ map (λ s. turned k s (31 - r)) a₀ → z ≡ map (λ s. be 8 (p_layer s)) a → z ≡ map (decrypt_words wide w) b
unfolding decrypt_words
each_decrypted {u} {k} wide w b r q t m good e h f =
    f
    ∙ rw (h, e, q) (ap (map (λ s. be 8 (p_layer s))) (map-map (λ s. turned k s 31) _ b) ∙ map-map (λ s. be 8 (p_layer s)) _ b)
    ∙ map_same _ _ (λ x. ap (be 8) (decrypted m good (number x) ∙ ap (λ (u : KeyRegister). decrypt (keys_from u) (number x)) t)) b
