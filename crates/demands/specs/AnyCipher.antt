-- The second half of demand 3 for any invertible cipher with blocks of 64 bits (document 02, request 10): a list of writes and clears, as mCrypton's and PRESENT's are instances of it.
use Rattle.std.specs.Prelude.{ℕ, ◌-◌, ◌<◌, ◌≡◌, List, ◌++◌, length}
use Rattle.octets.specs.Bytes.{zeros}
use Rattle.layout.specs.Layout.{edition_of, slots}
use Rattle.captions.specs.Captions.{Keys, Ciphers}
use Rattle.captions.specs.Calls.{writing_with, clearing, reading_with}
use Rattle.captions.specs.Runs.{Reply, replies, finally}
use Rattle.captions.specs.Model.{Call, writes, clears, blank, holds, new_model, page, model_step}
use Rattle.captions.specs.Claim.{stepped}
use Rattle.demands.specs.Steps.{Gives}

-- E and D seal and open, M checks; nothing else is known of them
unfoldable pub step_by : Ciphers → Keys → Call → List ℕ → Reply × List ℕ
step_by x k (writes i c) s = stepped (writing_with (edition_of s) x k s i c)
step_by x k (clears i) s = stepped (clearing s i)

pub record FollowsBook (x : Ciphers) (k : Keys) (s : List ℕ) (calls : List Call) : Type 0 where
  -- each call answers the model's number and length 0
  pub answers : replies (step_by x k) calls s ≡ replies model_step calls (new_model (slots s))
  -- a read of any slot below n, with any window of 192 bytes, is what its page shows
  pub reads_blank : (i : ℕ) (window : List ℕ) → i < slots s → length window ≡ 192 → page (finally model_step calls (new_model (slots s))) i ≡ blank
      → Gives (reading_with (edition_of s) x k (finally (step_by x k) calls s) i window) 9 0 (zeros 192)
  pub reads_caption : (i : ℕ) (window c : List ℕ) → i < slots s → length window ≡ 192 → page (finally model_step calls (new_model (slots s))) i ≡ holds c
      → Gives (reading_with (edition_of s) x k (finally (step_by x k) calls s) i window) 0 (length c) (c ++ zeros (192 - length c))
