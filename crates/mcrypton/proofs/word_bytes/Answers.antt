use mathlib.Core.Path.{ap, ◌∙◌}
use mathlib.Core.List.{[], ◌∷◌}
use Prim.Native.Nat.{ℕ, ◌%◌}
use native.Mathlib.Omega.{arith}
use Rattle.mcrypton.proofs.word_bytes.Goals as goal

pub returns : goal.returns
returns c = c.to_be_bytes.ensures ∙ ap (λ (x : ℕ). x ∷ c.args.w % 256 ∷ []) (omega arith)
