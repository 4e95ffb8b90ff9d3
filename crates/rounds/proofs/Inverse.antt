-- A round and the round taken back undo each other, in either direction.
use mathlib.Core.Path.{◌≡◌, ap, ◌∙◌}
use mathlib.Core.List.{List}
use Prim.Native.Nat.{ℕ}
use Rattle.rounds.specs.Array.{Block, opposite, γ, π, τ, σ, nibble_round, inverse_round}
use Rattle.rounds.specs.declared.Direction.{Direction}
use Rattle.rounds.specs.declared.Direction.TheVariants.{Encrypt, Decrypt}
use Rattle.rounds.proofs.Blocks.{block_γ, block_π, block_τ, block_σ, γ_γ, π_π, τ_τ, σ_σ}

γ_opposite : (d : Direction) {a : List ℕ} → Block a → γ d (γ (opposite d) a) ≡ a
γ_opposite Encrypt = γ_γ Decrypt
γ_opposite Decrypt = γ_γ Encrypt

module _ (d : Direction) {k a : List ℕ} (q : Block k) (p : Block a) where
  pub inverse_round_lem : inverse_round d k (nibble_round d k a) ≡ a
  inverse_round_lem =
      ap (λ (x : List ℕ). γ (opposite d) (π (τ x))) (σ_σ q (block_τ (π (γ d a))))
      ∙ ap (λ (x : List ℕ). γ (opposite d) (π x)) (τ_τ (block_π (γ d a)))
      ∙ ap (γ (opposite d)) (π_π (block_γ a d))
      ∙ γ_γ d p

  pub round_inverse : nibble_round d k (inverse_round d k a) ≡ a
  round_inverse =
      ap (λ (x : List ℕ). σ k (τ (π x))) (γ_opposite d (block_π (τ (σ k a))))
      ∙ ap (λ (x : List ℕ). σ k (τ x)) (π_π (block_τ (σ k a)))
      ∙ ap (σ k) (τ_τ (block_σ q p))
      ∙ σ_σ q p
