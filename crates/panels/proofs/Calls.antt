-- The outcome of the call on a panel, by the tests that the code makes.
use Rattle.std.specs.Prelude.{Ok, Err}
use Rattle.std.proofs.Common.{◌≡◌, ℕ, ◌<◌, ◌≤◌, Bool, true, false, List, length, ap, ◌∙◌, le-ltb, lt-ltb, eq-eqb, ne_eqb}
use Rattle.octets.specs.Outcome.{decided}
use Rattle.schedule.specs.Schedule.{start, register, encryption_key}
use Rattle.schedule.specs.declared.Register.{Register}
use Rattle.mcrypton.specs.Cipher.{encrypt_block}
use Rattle.mcrypton.specs.Bytes.{key_length, words_of, encrypt_bytes}
use Rattle.mcrypton.specs.Registers.{encrypt_from}
use Rattle.panels.specs.Ctr.{ctr}
use Rattle.panels.specs.Steps.{encrypted_from}
use Rattle.panels.specs.Calls.{panel_outcome, panel_tests, panelling}
use Rattle.panels.specs.declared.PanelError.TheVariants.{WrongKey, WrongSpan, Overlong}

-- from the register of round 0 of a key
pub round_0 : (k : List ℕ) (u : Register) → u ≡ start (words_of k) → u.round ≡ 0
unfolding start
round_0 k u e = ap (λ (x : Register). x.round) e

from_key : (k : List ℕ) (u : Register) (first : ℕ) (p : List ℕ) → u ≡ start (words_of k) → ctr (encrypted_from u) first p ≡ ctr (encrypt_bytes 0 k) first p
unfolding encrypted_from encrypt_from encrypt_bytes encrypt_block encryption_key register
from_key k u first p e = ap (λ (x : Register). ctr (encrypted_from x) first p) e

module _ (k : List ℕ) (first : ℕ) (p out : List ℕ) (t : Bool) (e : t ≡ key_length (length k)) where
  pub wrong_key_lem : t ≡ false → panel_outcome (Err WrongKey) out ≡ panelling k first p out
  unfolding panelling panel_tests decided
  wrong_key_lem h = rw (← e, h)

  pub wrong_span : t ≡ true → (length out ≡ length p → ⊥) → panel_outcome (Err WrongSpan) out ≡ panelling k first p out
  unfolding panelling panel_tests decided
  wrong_span h n = rw (← e, h, ne_eqb (length out) (length p) n)

  pub overlong : t ≡ true → length out ≡ length p → 65536 < length p → panel_outcome (Err Overlong) out ≡ panelling k first p out
  unfolding panelling panel_tests decided
  overlong h n l = rw (← e, h, eq-eqb (length out) (length p) n, lt-ltb 65536 (length p) l)

  pub accepts : t ≡ true → length out ≡ length p → length p ≤ 65536 → panel_outcome (Ok tt) (ctr (encrypt_bytes 0 k) first p) ≡ panelling k first p out
  unfolding panelling panel_tests decided
  accepts h n l = rw (← e, h, eq-eqb (length out) (length p) n, le-ltb 65536 (length p) l)

  pub accepted : t ≡ true → length out ≡ length p → length p ≤ 65536 → (u : Register) (exit : List ℕ) → u ≡ start (words_of k) → exit ≡ ctr (encrypted_from u) first p
      → panel_outcome (Ok tt) exit ≡ panelling k first p out
  accepted h n l u exit f g = ap (panel_outcome (Ok tt)) (g ∙ from_key k u first p f) ∙ accepts h n l
