-- The steps of one direction undo those of the other, where its round keys are φ of the other's reversed.
use mathlib.Core.Path.{◌≡◌, sym, ap, ap₂, ◌∙◌, subst}
use mathlib.Core.List.{List}
use Prim.Native.Nat.{ℕ, zero, suc, ◌-◌, ◌≤◌}
use native.Mathlib.Nat.{le_of_suc-le, le_refl}
use native.Mathlib.Omega.{arith}
use Rattle.rounds.specs.Array.{Block, opposite, π, γ, σ, φ, nibble_round}
use Rattle.rounds.specs.declared.Direction.{Direction}
use Rattle.rounds.specs.declared.Direction.TheVariants.{Encrypt, Decrypt}
use Rattle.rounds.proofs.Blocks.{block_σ, block_τ, block_φ, σ_σ, φ_σ, φ_φ, round_back}
use Rattle.schedule.specs.Schedule.{Key, encryption_key, decryption_key}
use Rattle.schedule.proofs.Registers.{block_encryption_key, key_back}
use Rattle.mcrypton.specs.Cipher.{after_by, after, steps, encrypt_block, decrypt_block}
use Rattle.mcrypton.proofs.Paths.{any_path}

module _ (d : Direction) (keys keys' : ℕ → List ℕ) (good : (r : ℕ) → r ≤ 12 → Block (keys r))
    (back : (r : ℕ) → r ≤ 12 → keys' r ≡ φ (keys (12 - r))) (p q : ℕ) (b : List ℕ) (block : Block b) where
  -- the array after r rounds of d, and after r rounds of the other direction on what d made
  x : ℕ → List ℕ
  x r = after d p keys b r

  y : ℕ → List ℕ
  y r = after (opposite d) q keys' (φ (x 12)) r

  block_x : (r : ℕ) → r ≤ 12 → Block (x r)
  unfolding x after_by
  block_x zero l = block_σ (good 0 l) block
  block_x (suc r) l =
      subst Block (sym (any_path d p (suc r) (keys (suc r)) (x r))) (block_σ (good (suc r) l) (block_τ (π (γ d (x r)))))

  meets : (r : ℕ) → r ≤ 12 → y r ≡ φ (σ (keys (12 - r)) (x (12 - r)))
  unfolding x y after_by
  meets zero l = ap (λ (u : List ℕ). σ u (φ (x 12))) (back 0 l) ∙ sym (φ_σ (good 12 (le_refl 12)) (block_x 12 (le_refl 12)))
  meets (suc r) l =
      any_path (opposite d) q (suc r) (keys' (suc r)) (y r)
      ∙ ap₂ (nibble_round (opposite d)) (back (suc r) l)
      (meets r (le_of_suc-le l) ∙ ap (λ (m : ℕ). φ (σ (keys m) (x m))) less)
      ∙ step (12 - suc r) (omega arith)
    where
      less : 12 - r ≡ suc (12 - suc r)
      less = omega arith

      step : (m : ℕ) → suc m ≤ 12 → nibble_round (opposite d) (φ (keys m)) (φ (σ (keys (suc m)) (x (suc m)))) ≡ φ (σ (keys m) (x m))
      step m h =
          ap (λ (u : List ℕ). nibble_round (opposite d) (φ (keys m)) (φ (σ (keys (suc m)) u))) (any_path d p (suc m) (keys (suc m)) (x m))
          ∙ round_back d (good m (le_of_suc-le h)) (good (suc m) h) (block_x m (le_of_suc-le h))

  pub steps_back : steps (opposite d) q keys' (steps d p keys b) ≡ b
  unfolding steps x y
  steps_back = ap φ (meets 12 (le_refl 12) ∙ ap φ added_twice) ∙ φ_φ block
    where
      added_twice : σ (keys 0) (x 0) ≡ b
      added_twice = unfold x after_by in σ_σ (good 0 (omega arith)) block

module _ (k : List ℕ) (h : Key k) (p q : ℕ) (b : List ℕ) (block : Block b) where
  pub decrypt_encrypt : decrypt_block q k (encrypt_block p k b) ≡ b
  unfolding decrypt_block encrypt_block
  decrypt_encrypt =
      steps_back Encrypt (encryption_key k) (decryption_key k) (λ r l. block_encryption_key k h r) (key_back k h) p q b block

  pub encrypt_decrypt : encrypt_block p k (decrypt_block q k b) ≡ b
  unfolding decrypt_block encrypt_block
  encrypt_decrypt =
      steps_back Decrypt (decryption_key k) (encryption_key k)
      (λ r l. subst Block (sym (key_back k h r l)) (block_φ (encryption_key k (12 - r)))) forth q p b block
    where
      twice : (r : ℕ) → r ≤ 12 → r ≡ 12 - (12 - r)
      twice r l = omega arith

      less : (r : ℕ) → 12 - r ≤ 12
      less r = omega arith

      forth : (r : ℕ) → r ≤ 12 → encryption_key k r ≡ φ (decryption_key k (12 - r))
      forth r l =
          sym (φ_φ (block_encryption_key k h r))
          ∙ ap (λ (m : ℕ). φ (φ (encryption_key k m))) (twice r l)
          ∙ ap φ (sym (key_back k h (12 - r) (less r)))
