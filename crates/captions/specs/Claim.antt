-- The theorem about lists of calls on a sheet, for any edition and any block cipher: what is asked of them, and what then holds of every list of writes, clears and strangers' writes.
use Rattle.std.specs.Prelude.{ℕ, ◌+◌, ◌≤◌, ◌<◌, ◌≡◌, true, List, [], ◌∷◌, length, Ok, Err}
use Rattle.octets.specs.Bytes.{Bytes, zeros, part}
use Rattle.octets.specs.Block.{ByteBlock, Invertible}
use Rattle.layout.specs.Layout.{Edition, slots, last_write, fit_in}
use Rattle.captions.specs.Answers.{Outcome, outcome, first_of}
use Rattle.captions.specs.Captions.{Keys, Ciphers, padded}
use Rattle.captions.specs.Calls.{pair_tests, writing_with, clearing_with, reading_with}
use Rattle.captions.specs.declared.Refusal.TheVariants.{Blank}
use Rattle.captions.specs.Runs.{Reply, replies, finally}
use Rattle.captions.specs.Model.{Call, writes, clears, Page, blank, holds, new_model, page, answered, model_step}
use Rattle.captions.specs.Turns.{Turn, own, stranger, own_calls, EachStranger, turn_model}

-- ---- a list of calls on a sheet

-- the reply of an outcome, and the sheet after the call
abbrev pub stepped : Outcome → Reply × List ℕ
stepped o = (record { number = o.number; len = o.len }, o.bytes)

unfoldable pub step_with : Edition → Ciphers → Keys → Call → List ℕ → Reply × List ℕ
step_with e x k (writes i c) s = stepped (writing_with e x k s i c)
step_with e x k (clears i) s = stepped (clearing_with e s i)

-- every caption is bytes
pub data Captions : List Call → Type 0 where
  none : Captions []
  write : {i : ℕ} {c : List ℕ} {calls : List Call} → Bytes c → Captions calls → Captions (writes i c ∷ calls)
  clear : {i : ℕ} {calls : List Call} → Captions calls → Captions (clears i ∷ calls)

-- and nothing else is asked of a list
pub record AskedOfCalls : Type 0 where
  pub ask_none : Captions []
  pub ask_write : (i : ℕ) (c : List ℕ) (calls : List Call) → Bytes c → Captions calls → Captions (writes i c ∷ calls)
  pub ask_clear : (i : ℕ) (calls : List Call) → Captions calls → Captions (clears i ∷ calls)

-- what a read of a slot answers and shows, by the page of the model
unfoldable pub shown : Page → Outcome
shown blank = outcome (Err Blank) (zeros 192)
shown (holds c) = outcome (Ok (length c)) (padded c)

-- ---- what is asked

-- two sheets have the same bytes in a header of h bytes, but for 4 to 7, the last write number
pub record SameHeader (h : ℕ) (s s' : List ℕ) : Type 0 where
  pub low : (a n : ℕ) → a + n ≤ 4 → part s a n ≡ part s' a n
  pub high : (a n : ℕ) → 8 ≤ a → a + n ≤ h → part s a n ≡ part s' a n

-- of an edition: bytes 0 to 7 are in its header, and its rule and tail are the same for the same header
pub record Regular (e : Edition) : Type 0 where
  pub header_size : 8 ≤ e.header
  -- a key mark and the serial before it are in the header, too
  pub keyed_size : e.keyed ≡ true → 16 ≤ e.header
  pub rule_kept : (s s' : List ℕ) → SameHeader e.header s s' → e.rule s ≡ e.rule s'
  pub tail_kept : (s s' : List ℕ) → SameHeader e.header s s' → e.tail s ≡ e.tail s'

-- of the ciphers: what the block cipher promises
pub record Sound (x : Ciphers) : Type 0 where
  pub seals : Invertible x.E x.D
  pub checks : (b : List ℕ) → ByteBlock b → ByteBlock (x.M b)

-- of a sheet and a pair of keys: bytes that meet the layout, and none of 1, 2, 5 and 14
pub record Fits (e : Edition) (x : Ciphers) (k : Keys) (s : List ℕ) : Type 0 where
  pub bytes : Bytes s
  pub fits : fit_in e s ≡ true
  pub passes : first_of (pair_tests e x k s) ≡ Ok tt

-- of a stranger's keys k', on the way from the sheet s: a write under them answers the number given and changes nothing
abbrev pub TurnedDown : Edition → (Turn → List ℕ → Reply × List ℕ) → (Keys → ℕ) → List ℕ → Keys → Type 0
TurnedDown e step number s k' = (i : ℕ) (c s' : List ℕ) → fit_in e s' ≡ true → SameHeader e.header s s' → step (stranger k' i c) s' ≡ (answered (number k'), s')

-- ---- what holds of a list, by any step that is the calls of edition e with the ciphers x on sheets with this header; number is what strangers are answered

pub record FollowsModel (e : Edition) (x : Ciphers) (k : Keys) (step : Turn → List ℕ → Reply × List ℕ) (number : Keys → ℕ) (s : List ℕ) (turns : List Turn) : Type 0 where
  -- each call answers the model's number and length 0
  pub answers : replies step turns s ≡ replies (turn_model number) turns (new_model (slots s))
  -- strangers change no byte: after the list the sheet is what the pair's writes and the clears alone make of it
  pub alone : finally step turns s ≡ finally (λ c. step (own c)) (own_calls turns) s
  -- after the list w is the count of a model that was fed those alone
  pub last : last_write (finally step turns s) ≡ (finally model_step (own_calls turns) (new_model (slots s))).count
  -- the sheet still meets the layout, and has its header
  pub fits : Fits e x k (finally step turns s)
  pub header : SameHeader e.header s (finally step turns s)
  -- a read of any slot below n, with any window of 192 bytes, is what its page shows
  pub reads : (i : ℕ) (window : List ℕ) → i < slots s → length window ≡ 192
      → reading_with e x k (finally step turns s) i window ≡ shown (page (finally model_step (own_calls turns) (new_model (slots s))) i)

abbrev pub SheetsFollowModel : Type 0
SheetsFollowModel = (e : Edition) (x : Ciphers) (k : Keys) (step : Turn → List ℕ → Reply × List ℕ) (number : Keys → ℕ) (s : List ℕ) (turns : List Turn)
    → Regular e → Sound x → Fits e x k s → last_write s ≡ 0 → Captions (own_calls turns)
    → ((c : Call) (s' : List ℕ) → SameHeader e.header s s' → step (own c) s' ≡ step_with e x k c s')
    → EachStranger (TurnedDown e step number s) turns
    → FollowsModel e x k step number s turns
