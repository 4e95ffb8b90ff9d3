-- Demand 3: what holds of every list of writes, clears and strangers' writes from a blank sheet, and of every key of mCrypton.
use Rattle.std.specs.Prelude.{ℕ, ◌-◌, ◌<◌, ◌≡◌, List, ◌++◌, length, Ok}
use Rattle.octets.specs.Bytes.{zeros}
use Rattle.octets.specs.Block.{ByteBlock, Invertible}
use Rattle.schedule.specs.Schedule.{Key}
use Rattle.mcrypton.specs.Claims.{FirstHalf}
use Rattle.layout.specs.Layout.{edition_of, slots, last_write}
use Rattle.captions.specs.Answers.{first_of}
use Rattle.captions.specs.Captions.{Keys, Ciphers}
use Rattle.captions.specs.Calls.{pair_tests, writing, clearing}
use Rattle.captions.specs.Runs.{replies, finally, HandedOn}
use Rattle.captions.specs.Model.{Call, writes, clears, blank, holds, Model, new_model, page, answered, model_step}
use Rattle.captions.specs.Turns.{Turn, own, stranger, own_calls, EachStranger, turn_model}
use Rattle.captions.specs.Claim.{Captions}
use Rattle.demands.specs.Ciphers.{reading_by, ClassesByCipher, CodeWrites, CodeReads, CodeBlanks}
use Rattle.demands.specs.Steps.{Gives, sheet_step, key_refusal, turn_step, Stranger, Serves, BlankSheet}
use Rattle.demands.specs.AnyCipher.{FollowsBook}
use Rattle.demands.specs.Premises.{Premises}
use Rattle.demands.specs.Witnesses.{Witnesses}

-- ---- the second half, of one list: writes encrypt by p; reads make start blocks and checks by p' and open by q

-- the model after the list: it was fed n, and the pair's writes and the clears alone
abbrev pub model_after : List ℕ → List Turn → Model
model_after s turns = finally model_step (own_calls turns) (new_model (slots s))

pub record SecondHalf (p p' q : ℕ) (k : Keys) (s : List ℕ) (turns : List Turn) : Type 0 where
  -- each of the pair's writes and each clear answers the model's number and length 0, and each stranger's write the number that he meets with the sheet as blanked
  pub answers : replies (turn_step p k) turns s ≡ replies (turn_model (λ k'. key_refusal k' s)) turns (new_model (slots s))
  -- strangers change no byte: after the list the sheet is what the pair's writes and the clears alone make of it
  pub alone : finally (turn_step p k) turns s ≡ finally (sheet_step p k) (own_calls turns) s
  -- after the list w is the model's count
  pub last : last_write (finally (turn_step p k) turns s) ≡ (model_after s turns).count
  -- a read of any slot below n, with any window of 192 bytes: a blank page gives 9, length 0 and zeros; a page that holds c gives 0, its length, and c and zeros
  pub reads_blank : (i : ℕ) (window : List ℕ) → i < slots s → length window ≡ 192 → page (model_after s turns) i ≡ blank
      → Gives (reading_by p' q k (finally (turn_step p k) turns s) i window) 9 0 (zeros 192)
  pub reads_caption : (i : ℕ) (window c : List ℕ) → i < slots s → length window ≡ 192 → page (model_after s turns) i ≡ holds c
      → Gives (reading_by p' q k (finally (turn_step p k) turns s) i window) 0 (length c) (c ++ zeros (192 - length c))

-- ---- from the statement to the program

pub record Code : Type 0 where
  -- the definitions that the contracts of write, read and blanking cite are those by path numbers; that of clear cites clearing
  pub write : CodeWrites
  pub read : CodeReads
  pub blank : CodeBlanks
  -- each turn of a list is a call: a write under the pair, a clear, or a write under the stranger's keys
  pub turn_write : (p : ℕ) (k : Keys) (i : ℕ) (c s : List ℕ)
      → turn_step p k (own (writes i c)) s ≡ (record { number = (writing k s i c).number; len = (writing k s i c).len }, (writing k s i c).bytes)
  pub turn_clear : (p : ℕ) (k : Keys) (i : ℕ) (s : List ℕ)
      → turn_step p k (own (clears i)) s ≡ (record { number = (clearing s i).number; len = (clearing s i).len }, (clearing s i).bytes)
  pub turn_stranger : (p : ℕ) (k k' : Keys) (i : ℕ) (c s : List ℕ)
      → turn_step p k (stranger k' i c) s ≡ (record { number = (writing k' s i c).number; len = (writing k' s i c).len }, (writing k' s i c).bytes)
  -- each call gets what the one before left, the program's and the model's; the model answers length 0
  pub turns_in_a_row : (p : ℕ) (k : Keys) → HandedOn (turn_step p k)
  pub calls_in_a_row : (p : ℕ) (k : Keys) → HandedOn (sheet_step p k)
  pub model_in_a_row : HandedOn model_step
  pub answers_in_a_row : (number : Keys → ℕ) → HandedOn (turn_model number)
  pub model_says : (n : ℕ) → answered n ≡ record { number = n; len = 0 }

-- ---- the whole

pub record Demand3 : Type 0 where
  pub second : (p p' q : ℕ) (k : Keys) (s : List ℕ) (turns : List Turn) → Serves k s → BlankSheet s → Captions (own_calls turns) → EachStranger (Stranger s) turns
      → SecondHalf p p' q k s turns
  -- the same of writes and clears, whatever cipher seals and checks: E and D undo each other on blocks of 8 bytes, and M makes blocks of blocks
  pub any_cipher : (x : Ciphers) (k : Keys) (s : List ℕ) (calls : List Call) → Invertible x.E x.D → ((b : List ℕ) → ByteBlock b → ByteBlock (x.M b)) → BlankSheet s
      → first_of (pair_tests (edition_of s) x k s) ≡ Ok tt → Captions calls → FollowsBook x k s calls
  pub first : (k : List ℕ) → Key k → FirstHalf k
  pub premises : Premises
  pub witnesses : Witnesses
  pub code : Code
  pub ciphers : ClassesByCipher
