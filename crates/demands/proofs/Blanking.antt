-- An accepted blanking: what it tested, and what it leaves.
use Prim.Native.Nat.{ℕ}
use mathlib.Core.Path.{◌≡◌, ap}
use mathlib.Core.List.{List}
use Rattle.layout.specs.Layout.{blank_sheet}
use Rattle.captions.specs.Answers.{Outcome, answer_length, outcome}
use Rattle.captions.specs.Captions.{Keys, Ciphers, key_mark}
use Rattle.captions.specs.Calls.{blank_tests, blanking_with}
use Rattle.captions.proofs.Tables.{Unmet}
use Rattle.captions.proofs.Accepted.{accepted_unmet, zero_blank}

module _ (x : Ciphers) (k : Keys) (b : List ℕ) (n t v : ℕ) (h : (blanking_with x k b n t v).number ≡ 0) where
  pub blank_unmet : Unmet (blank_tests k b n t)
  unfolding blanking_with
  blank_unmet = accepted_unmet _ _ _ (blank_tests k b n t) h

  pub blank_len : (blanking_with x k b n t v).len ≡ 0
  unfolding outcome answer_length
  blank_len = ap (λ (o : Outcome). o.len) (zero_blank x k b n t v h)

  pub blank_is : (blanking_with x k b n t v).bytes ≡ blank_sheet n t v (key_mark x n t v)
  unfolding outcome
  blank_is = ap (λ (o : Outcome). o.bytes) (zero_blank x k b n t v h)
