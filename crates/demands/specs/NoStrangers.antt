-- Demand 3 of a list without strangers, as it follows from the whole.
use Rattle.std.specs.Prelude.{ℕ, ◌-◌, ◌<◌, ◌≡◌, List, ◌++◌, length}
use Rattle.octets.specs.Bytes.{zeros}
use Rattle.layout.specs.Layout.{slots, last_write}
use Rattle.captions.specs.Captions.{Keys}
use Rattle.captions.specs.Runs.{replies, finally}
use Rattle.captions.specs.Model.{Call, blank, holds, new_model, page, model_step}
use Rattle.demands.specs.Ciphers.{reading_by}
use Rattle.demands.specs.Steps.{Gives, sheet_step}

pub record NoStrangers (p p' q : ℕ) (k : Keys) (s : List ℕ) (calls : List Call) : Type 0 where
  -- each call answers the model's number and length 0
  pub answers : replies (sheet_step p k) calls s ≡ replies model_step calls (new_model (slots s))
  -- after the list w is the model's count
  pub last : last_write (finally (sheet_step p k) calls s) ≡ (finally model_step calls (new_model (slots s))).count
  -- a read of any slot below n, with any window of 192 bytes, is what its page shows
  pub reads_blank : (i : ℕ) (window : List ℕ) → i < slots s → length window ≡ 192 → page (finally model_step calls (new_model (slots s))) i ≡ blank
      → Gives (reading_by p' q k (finally (sheet_step p k) calls s) i window) 9 0 (zeros 192)
  pub reads_caption : (i : ℕ) (window c : List ℕ) → i < slots s → length window ≡ 192 → page (finally model_step calls (new_model (slots s))) i ≡ holds c
      → Gives (reading_by p' q k (finally (sheet_step p k) calls s) i window) 0 (length c) (c ++ zeros (192 - length c))
