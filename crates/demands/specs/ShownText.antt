-- What the test of text is for (document 02, request 9): on a sheet that began blank, whatever was written to it, a read under its pair shows well-formed text alone; and old sheets still show.
use Rattle.std.specs.Prelude.{ℕ, ◌-◌, ◌≤◌, ◌<◌, ◌≡◌, true, List, ◌++◌, length, take}
use Rattle.octets.specs.Bytes.{Bytes, zeros}
use Rattle.text.specs.Grammar.{Utf8}
use Rattle.layout.specs.Layout.{edition_of, slots, key_class, last_write, fit}
use Rattle.captions.specs.Answers.{Outcome}
use Rattle.captions.specs.Captions.{Keys, written}
use Rattle.captions.specs.Runs.{finally}
use Rattle.captions.specs.Turns.{Turn, own_calls, EachStranger}
use Rattle.captions.specs.Claim.{Captions}
use Rattle.dated.specs.Calls.{dating}
use Rattle.demands.specs.Ciphers.{by_paths, reading_by}
use Rattle.demands.specs.Steps.{Gives, turn_step, Stranger, Serves, BlankSheet}

-- an accepted read shows text: the bytes of its window, as many as its length says
abbrev pub ShowsText : Outcome → Type 0
ShowsText o = o.number ≡ 0 → Utf8 (take o.len o.bytes)

-- of lists the premises are demand 3's
pub record ShownText : Type 0 where
  -- a read of any slot with any window, after any list of the pair's writes, anybody's clears and strangers' writes
  pub read : (p p' q : ℕ) (k : Keys) (s : List ℕ) (turns : List Turn) → Serves k s → BlankSheet s → Captions (own_calls turns) → EachStranger (Stranger s) turns
      → (i : ℕ) (window : List ℕ) → ShowsText (reading_by p' q k (finally (turn_step p k) turns s) i window)
  -- and on any day, with any term sheet t
  pub dated_read : (p : ℕ) (k : Keys) (s : List ℕ) (turns : List Turn) → Serves k s → BlankSheet s → Captions (own_calls turns) → EachStranger (Stranger s) turns
      → (t : List ℕ) (i day : ℕ) (window : List ℕ) → ShowsText (dating k (finally (turn_step p k) turns s) t i day window).outcome
  -- a caption of any bytes, stored as a write stores it and as older libraries did, text or not, is shown as it is
  pub old : (p p' q : ℕ) (k : Keys) (s : List ℕ) (i : ℕ) (c window : List ℕ) → Serves k s → Bytes s → fit s ≡ true → i < slots s → last_write s < 4294967295
      → Bytes c → length c ≤ 192 → length window ≡ 192
      → Gives (reading_by p' q k (written (by_paths (key_class s) p p k) (edition_of s) s i c) i window) 0 (length c) (c ++ zeros (192 - length c))
