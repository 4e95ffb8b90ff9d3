-- The block that the way back ends at leads to the array, and no other block does.
use mathlib.Core.Path.{◌≡◌, sym, ap, ◌∙◌, subst}
use mathlib.Core.List.{List}
use Prim.Native.Nat.{ℕ, zero, suc}
use Rattle.rounds.specs.Array.{Block, γ, π, nibble_round, inverse_round}
use Rattle.rounds.specs.declared.Direction.TheVariants.{Encrypt, Decrypt}
use Rattle.rounds.proofs.Blocks.{block_γ, block_τ, block_σ, σ_σ}
use Rattle.rounds.proofs.Inverse.{inverse_round_lem, round_inverse}
use Rattle.schedule.specs.Schedule.{Key, register, round_key, encryption_key}
use Rattle.schedule.specs.declared.Register.{Register}
use Rattle.schedule.proofs.Registers.{back_one, block_encryption_key}
use Rattle.mcrypton.specs.Cipher.{after_by, after}
use Rattle.mcrypton.proofs.Paths.{any_path}
use Rattle.chip_bench.specs.Bench.{taken_back}

module _ (k : List ℕ) (h : Key k) where
  -- one round of the way back: the register steps back with it
  step_back : (r : ℕ) (a : List ℕ) → taken_back (suc r) (register k (suc r)) a ≡ taken_back r (register k r) (inverse_round Encrypt (encryption_key k (suc r)) a)
  unfolding taken_back encryption_key
  step_back r a =
      ap (λ (u : Register). taken_back r u (inverse_round Encrypt (round_key (register k (suc r))) a)) (back_one k h.count h.words r)

  pub block_back : (r : ℕ) (a : List ℕ) → Block a → Block (taken_back r (register k r) a)
  unfolding taken_back encryption_key
  block_back zero a g = block_σ (block_encryption_key k h 0) g
  block_back (suc r) a g = subst Block (sym (step_back r a)) (block_back r _ (block_γ _ Decrypt))

  module _ (p : ℕ) where
    block_after : (b : List ℕ) → Block b → (r : ℕ) → Block (after Encrypt p (encryption_key k) b r)
    unfolding after_by
    block_after b g zero = block_σ (block_encryption_key k h 0) g
    block_after b g (suc r) =
        subst Block (sym (any_path Encrypt p (suc r) (encryption_key k (suc r)) (after Encrypt p (encryption_key k) b r)))
        (block_σ (block_encryption_key k h (suc r)) (block_τ (π (γ Encrypt (after Encrypt p (encryption_key k) b r)))))

    -- it leads there
    pub leads : (r : ℕ) (a : List ℕ) → Block a → after Encrypt p (encryption_key k) (taken_back r (register k r) a) r ≡ a
    unfolding after_by taken_back encryption_key
    leads zero a g = σ_σ (block_encryption_key k h 0) g
    leads (suc r) a g =
        ap (λ (b : List ℕ). after Encrypt p (encryption_key k) b (suc r)) (step_back r a)
        ∙ any_path Encrypt p (suc r) (encryption_key k (suc r)) _
        ∙ ap (nibble_round Encrypt (encryption_key k (suc r))) (leads r (inverse_round Encrypt (encryption_key k (suc r)) a) (block_γ _ Decrypt))
        ∙ round_inverse Encrypt (block_encryption_key k h (suc r)) g

    -- and no other block does
    pub only : (r : ℕ) (b : List ℕ) → Block b → taken_back r (register k r) (after Encrypt p (encryption_key k) b r) ≡ b
    unfolding after_by taken_back encryption_key
    only zero b g = σ_σ (block_encryption_key k h 0) g
    only (suc r) b g =
        step_back r (after Encrypt p (encryption_key k) b (suc r))
        ∙ ap (λ (x : List ℕ). taken_back r (register k r) (inverse_round Encrypt (encryption_key k (suc r)) x)) (any_path Encrypt p (suc r) (encryption_key k (suc r)) (after Encrypt p (encryption_key k) b r))
        ∙ ap (taken_back r (register k r)) (inverse_round_lem Encrypt (block_encryption_key k h (suc r)) (block_after b g r))
        ∙ only r b g
