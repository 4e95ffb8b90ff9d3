-- The key register as two numbers of 64 bits, the round key and what is to its right.
use Rattle.std.specs.Prelude.{ℕ, ◌+◌, ◌*◌, ◌-◌, ◌/◌, ◌^◌, ◌<◌, ◌≡◌, Bool, true, false, List, get_or}
use Rattle.present_rounds.specs.Layers.{inverse_pLayer}
use Rattle.present_schedule.specs.Schedule.{update80, update128, register}

-- a register of 128 bits where wide is true, else of 80: the round key, and what is to its right
pub record KeyRegister : Type 0 where
  pub high : ℕ
  pub low : ℕ
  pub wide : Bool

-- how many bits are to the right of the round key, and the update, of a register of 128 bits or of 80
abbrev pub rest : Bool → ℕ
rest true = 64
rest false = 16

abbrev pub update : Bool → ℕ → ℕ → ℕ
update true = update128
update false = update80

-- the register that r holds
abbrev pub held : KeyRegister → ℕ
held r = r.high * 2 ^ rest r.wide + r.low

-- its round key: the 64 leftmost bits
abbrev pub round_key : KeyRegister → ℕ
round_key r = held r / 2 ^ rest r.wide

-- K_1 to K_32, where r holds the key
unfoldable pub keys_from : KeyRegister → ℕ → ℕ
keys_from r i = register (update r.wide) (held r) (i - 1) / 2 ^ rest r.wide

-- s holds the register of r after the update with the round counter i
pub record Updated (i : ℕ) (r s : KeyRegister) : Type 0 where
  pub same_width : s.wide ≡ r.wide
  pub low_lt : s.low < 2 ^ rest r.wide
  pub holds : s.high * 2 ^ rest r.wide + s.low ≡ update r.wide i (held r)

-- entry i of k is the inverse of pLayer on K_(i + 1)
pub record MovedKeys (r : KeyRegister) (k : List ℕ) : Type 0 where
  pub at : (i : ℕ) → i < 32 → get_or k i 0 ≡ inverse_pLayer (keys_from r (i + 1))
