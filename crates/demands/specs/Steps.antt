-- What demands 2 and 3 speak of: an outcome in plain values, the calls of a list one by one, and the sheet and the pair of keys that it begins with.
use Rattle.std.specs.Prelude.{ℕ, ◌≡◌, ◌≢◌, true, List, Ok}
use Rattle.octets.specs.Bytes.{Bytes}
use Rattle.octets.specs.Outcome.{decided}
use Rattle.layout.specs.Layout.{edition_of, key_class, last_write, fit}
use Rattle.captions.specs.Answers.{Outcome, refusal_number, first_of}
use Rattle.captions.specs.Captions.{Keys}
use Rattle.captions.specs.Calls.{pair_tests, clearing}
use Rattle.captions.specs.Runs.{Reply}
use Rattle.captions.specs.Model.{Call, writes, clears}
use Rattle.captions.specs.Turns.{Turn, own, stranger}
use Rattle.captions.specs.Claim.{stepped}
use Rattle.demands.specs.Ciphers.{by_paths, writing_by}

-- a call answers this number and this length, and leaves these bytes
pub record Gives (o : Outcome) (number len : ℕ) (bytes : List ℕ) : Type 0 where
  pub number_is : o.number ≡ number
  pub len_is : o.len ≡ len
  pub bytes_are : o.bytes ≡ bytes

-- ---- a list of calls on a sheet

-- the reply of a call, and the sheet after it
unfoldable pub sheet_step : ℕ → Keys → Call → List ℕ → Reply × List ℕ
sheet_step p k (writes i c) s = stepped (writing_by p k s i c)
sheet_step p k (clears i) s = stepped (clearing s i)

-- the first of 1, 2, 5 and 14 that the keys meet with s, or 0
unfoldable pub key_refusal : Keys → List ℕ → ℕ
key_refusal k s = decided (pair_tests (edition_of s) (by_paths (key_class s) 0 0 k) k s) 0 refusal_number

-- the same with strangers' writes among the calls
unfoldable pub turn_step : ℕ → Keys → Turn → List ℕ → Reply × List ℕ
turn_step p k (own c) s = sheet_step p k c s
turn_step p k (stranger k' i c) s = stepped (writing_by p k' s i c)

-- strangers to s meet 1, 2, 5 or 14 with it: none has its mark by chance
abbrev pub Stranger : List ℕ → Keys → Type 0
Stranger s k = key_refusal k s ≢ 0

-- ---- the sheet and the pair

-- the pair of keys serves the sheet s: it is bytes
pub record Serves (k : Keys) (s : List ℕ) : Type 0 where
  pub sealing : Bytes k.sealing
  pub checking : Bytes k.checking
  -- and meets none of 1, 2, 5 and 14 with s
  pub passes : first_of (pair_tests (edition_of s) (by_paths (key_class s) 0 0 k) k s) ≡ Ok tt

-- a blank sheet: it meets the layout and has w = 0
pub record BlankSheet (s : List ℕ) : Type 0 where
  pub bytes : Bytes s
  -- of any edition
  pub fits : fit s ≡ true
  pub unused : last_write s ≡ 0
