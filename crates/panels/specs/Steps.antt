-- What only the contracts of inner functions say.
use Rattle.std.specs.Prelude.{◌≡◌, ℕ, ◌+◌, ◌<◌, List, [], slice_index_or}
use Rattle.schedule.specs.declared.Register.{Register}
use Rattle.mcrypton.specs.Bytes.{words_of, bytes_of}
use Rattle.mcrypton.specs.Registers.{encrypt_from}
use Rattle.panels.specs.Ctr.{T}

-- the first n arrays of a are the counter blocks of the numbers from c on, as words
pub record Counters (c n : ℕ) (a : List (List ℕ)) : Type 0 where
  pub at : (i : ℕ) → i < n → slice_index_or a i [] ≡ words_of (T (c + i))

-- a block encrypted from the register of round 0, as bytes
unfoldable pub encrypted_from : Register → List ℕ → List ℕ
encrypted_from u b = bytes_of (encrypt_from 0 u (words_of b))

-- the bytes of array i
unfoldable pub block_of : List (List ℕ) → ℕ → List ℕ
block_of a i = bytes_of (slice_index_or a i [])
