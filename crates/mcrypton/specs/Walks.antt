-- For the contracts of inner functions: a walk of the register in either direction, and what it does to a block.
use Rattle.std.specs.Prelude.{ℕ, ◌-◌, ◌<◌, ◌≡◌, List}
use Rattle.rounds.specs.Array.{φ, word_round}
use Rattle.rounds.specs.declared.Direction.{Direction}
use Rattle.rounds.specs.declared.Direction.TheVariants.{Encrypt, Decrypt}
use Rattle.schedule.specs.Schedule.{forward, backward, start, back_start, times, round_key}
use Rattle.schedule.specs.declared.Register.{Register}
use Rattle.mcrypton.specs.Cipher.{steps}

-- a step of the register, the key that a round makes of it, and its number after r rounds
abbrev pub step : Direction → Register → Register
step Encrypt = forward
step Decrypt = backward

abbrev pub walk_key : Direction → Register → List ℕ
walk_key Encrypt = round_key
walk_key Decrypt = λ v. φ (round_key v)

abbrev pub round_number : Direction → ℕ → ℕ
round_number Encrypt r = r
round_number Decrypt r = 12 - r

-- v is a register after r rounds
pub record Reached (d : Direction) (r : ℕ) (v : Register) : Type 0 where
  pub known : v.round ≡ round_number d r
  pub inside : r < 13

-- the register before the first round of a key
abbrev pub begun_by : Direction → List ℕ → Register
begun_by Encrypt k = start k
begun_by Decrypt k = back_start (start k)

-- the block b after a walk from the register u by the path number p: `encrypt_from` and `decrypt_from` in one
unfoldable pub walked : Direction → ℕ → Register → List ℕ → List ℕ
walked d p u b = steps d p (λ r. walk_key d (times r (step d) u)) b

-- from the register v and the array a, two rounds by words lead to v₂ and a₂
pub record TwoRounds (d : Direction) (v : Register) (a : List ℕ) (v₂ : Register) (a₂ : List ℕ) : Type 0 where
  pub steps : v₂ ≡ step d (step d v)
  pub rounds : a₂ ≡ word_round d (walk_key d v₂) (word_round d (walk_key d (step d v)) a)
