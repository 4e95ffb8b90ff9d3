-- Laws of the public CMAC, one for each way out.
use Rattle.std.specs.Prelude.{Ok, Err}
use mathlib.Core.Path.{◌≡◌, refl, sym, ap, ◌∙◌}
use mathlib.Core.List.{List}
use mathlib.Core.Bool.{Bool, true, false}
use Prim.Native.Nat.{ℕ, ◌/◌}
use borrow.Author.Tests.{eq-eqb, ne_eqb}
use lib.ListN.{length}
use Rattle.octets.specs.Bytes.{zeros}
use Rattle.octets.specs.Outcome.{Outcome}
use Rattle.octets.specs.BlockCalls.{block_outcome}
use Rattle.octets.specs.declared.BlockError.TheVariants.{WrongKey, WrongSpan}
use Rattle.octets.proofs.Outcome.{decided_first, decided_rest, decided_none}
use Rattle.mcrypton.specs.Bytes.{key_length, encrypt_bytes}
use Rattle.cipher.specs.Key.{loaded, encrypted}
use Rattle.cipher.specs.declared.Key.{Key}
use Rattle.cipher.proofs.Promise.{loaded_encrypts}
use Rattle.modes.specs.Cmac.{block_count, cmac}
use Rattle.modes.specs.Answers.{authenticating}
use Rattle.modes.proofs.Authentication.{mac_agree}

module _ (k m out : List ℕ) (r : Bool) (e : r ≡ key_length (length k)) where
  pub refused_key : r ≡ false → block_outcome (Err WrongKey) out ≡ authenticating k m out
  unfolding authenticating
  refused_key t = decided_first _ _ _ _ _ (rw (← e, t)) refl

  module _ (t : r ≡ true) where
    pub refused_span : (length out ≡ 8 → ⊥) → block_outcome (Err WrongSpan) out ≡ authenticating k m out
    unfolding authenticating
    refused_span n = decided_rest _ _ _ _ _ (rw (← e, t)) (decided_first _ _ _ _ _ (rw (ne_eqb (length out) 8 n)) refl)

    pub accepted : length out ≡ 8 → (l : Key) (c : List ℕ) {o : Outcome} → l ≡ loaded (length k / 2) k → c ≡ cmac (encrypted l) m
        → o ≡ block_outcome (Ok tt) c → o ≡ authenticating k m out
    unfolding authenticating cmac zeros
    accepted n l c el ec eo =
        decided_rest _ _ _ _ _ (rw (← e, t))
        (decided_rest _ _ _ _ _ (rw (eq-eqb (length out) 8 n))
        (eo ∙ ap (block_outcome (Ok tt)) (ec ∙ rw el (mac_agree (encrypted (loaded (length k / 2) k)) (encrypt_bytes 0 k) (zeros 8) m (λ b. loaded_encrypts 0 k b (sym e ∙ t)) (block_count m))) ∙ decided_none _ _))
