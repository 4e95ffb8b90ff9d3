-- For the contracts of inner functions and of the crate above: a block encrypted and decrypted from a register, with the steps of the register in sight.
use Rattle.std.specs.Prelude.{ℕ, List}
use Rattle.rounds.specs.Array.{φ}
use Rattle.rounds.specs.declared.Direction.TheVariants.{Encrypt, Decrypt}
use Rattle.schedule.specs.Schedule.{forward, backward, times, round_key}
use Rattle.schedule.specs.declared.Register.{Register}
use Rattle.mcrypton.specs.Cipher.{steps}

-- u is the forward register of round 0
unfoldable pub encrypt_from : ℕ → Register → List ℕ → List ℕ
encrypt_from p u b = steps Encrypt p (λ r. round_key (times r forward u)) b

-- u is the backward register's start
unfoldable pub decrypt_from : ℕ → Register → List ℕ → List ℕ
decrypt_from p u b = steps Decrypt p (λ r. φ (round_key (times r backward u))) b
