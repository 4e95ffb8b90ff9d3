-- The block that leads to an array after a round (document 02, request 4).
use Rattle.std.specs.Prelude.{ℕ, zero, suc, List}
use Rattle.rounds.specs.Array.{inverse_round, σ}
use Rattle.rounds.specs.declared.Direction.TheVariants.{Encrypt}
use Rattle.schedule.specs.Schedule.{backward, register, round_key}
use Rattle.schedule.specs.declared.Register.{Register}
use Rattle.mcrypton.specs.Bytes.{words_of, bytes_of}

-- from the array a after round r, as its four row words: rounds r to 1 of a sealing taken back, then round key 0 added; u is the register at
-- round r and steps back round by round
unfoldable pub taken_back : ℕ → Register → List ℕ → List ℕ
taken_back zero u a = σ (round_key u) a
taken_back (suc r) u a = taken_back r (backward u) (inverse_round Encrypt (round_key u) a)

-- the same under the key k, all as bytes: the register goes forward to round r, and then back
unfoldable pub leading_block : List ℕ → ℕ → List ℕ → List ℕ
leading_block k r a = bytes_of (taken_back r (register (words_of k) r) (words_of a))
