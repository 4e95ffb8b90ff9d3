-- Demand 3 holds.
use Prim.Native.Nat.{ℕ, ◌<◌}
use mathlib.Core.Path.{◌≡◌, refl}
use mathlib.Core.List.{List}
use lib.ListN.{length}
use Rattle.mcrypton.proofs.FirstHalf.{first_half}
use Rattle.layout.specs.Layout.{edition_of, slots, key_class}
use Rattle.captions.specs.Captions.{Keys}
use Rattle.captions.specs.Calls.{clearing}
use Rattle.captions.specs.Runs.{finally}
use Rattle.captions.specs.Model.{Call, writes, clears, page, answered, model_step}
use Rattle.captions.specs.Turns.{Turn, own_calls, EachStranger, none as no_stranger, past, met, turn_model}
use Rattle.captions.specs.Claim.{SameHeader, Captions, TurnedDown, FollowsModel, step_with, shown}
use Rattle.captions.proofs.Store.{key_class_kept}
use Rattle.captions.proofs.Editions.{editions_regular, edition_kept}
use Rattle.captions.proofs.Runs.{handed_on}
use Rattle.captions.proofs.Simulation.{sheets_follow_model}
use Rattle.demands.specs.Ciphers.{by_paths, writing_by, reading_by}
use Rattle.demands.specs.Steps.{sheet_step, key_refusal, turn_step, Stranger, Serves, BlankSheet}
use Rattle.demands.specs.Demand3.{model_after, SecondHalf, Code, Demand3}
use Rattle.demands.proofs.Ciphers.{same_paths, classes_by_cipher, code_writes, code_reads, code_blanks}
use Rattle.demands.proofs.Served.{served_keys, served_class, served_fits, served_sound}
use Rattle.demands.proofs.Strangers.{stranger_down}
use Rattle.demands.proofs.Turns.{turn_write, turn_clear, turn_stranger}
use Rattle.demands.proofs.AnyCipher.{shows_blank, shows_caption, follows_book}
use Rattle.demands.proofs.Premises.{premises}
use Rattle.demands.proofs.Witnesses.{witnesses}

-- a call takes the edition and the class from the sheet it gets, which are those of the first
same_step : (p : ℕ) (k : Keys) (s : List ℕ) (c : Call) (s' : List ℕ) → SameHeader (edition_of s).header s s'
    → sheet_step p k c s' ≡ step_with (edition_of s) (by_paths (key_class s) p p k) k c s'
unfolding sheet_step writing_by clearing step_with
same_step p k s (writes i c) s' h = rw (edition_kept s s' h, key_class_kept h)
same_step p k s (clears i) s' h = rw (edition_kept s s' h)

-- every stranger is turned down
each_down : (p : ℕ) (k : Keys) (s : List ℕ) {turns : List Turn} → EachStranger (Stranger s) turns
    → EachStranger (TurnedDown (edition_of s) (turn_step p k) (λ k'. key_refusal k' s) s) turns
each_down p k s no_stranger = no_stranger
each_down p k s (past h) = past (each_down p k s h)
each_down p k s (met {k = k'} str h) = met (stranger_down p k s k' str) (each_down p k s h)

module _ (p p' q : ℕ) (k : Keys) (s : List ℕ) (turns : List Turn) (serves : Serves k s) (blank : BlankSheet s) (captions : Captions (own_calls turns)) (each : EachStranger (Stranger s) turns) where
  pub follows : FollowsModel (edition_of s) (by_paths (key_class s) p p k) k (turn_step p k) (λ k'. key_refusal k' s) s turns
  unfolding turn_step
  follows =
      sheets_follow_model (edition_of s) (by_paths (key_class s) p p k) k (turn_step p k) (λ k'. key_refusal k' s) s turns (editions_regular s)
      (served_sound p p k s serves blank.fits) (served_fits p p k s serves blank.bytes blank.fits) blank.unused captions (same_step p k s) (each_down p k s each)

  reads : (i : ℕ) (window : List ℕ) → i < slots s → length window ≡ 192
      → reading_by p' q k (finally (turn_step p k) turns s) i window ≡ shown (page (model_after s turns) i)
  unfolding reading_by turn_step
  reads i window h l =
      rw (
        ← key_class_kept follows.header,
        same_paths k s (served_keys p p k s serves) (served_class p p k s serves) p' q p p,
        ← edition_kept s (finally (turn_step p k) turns s) follows.header,
      )
      (follows.reads i window h l)

  pub second_half : SecondHalf p p' q k s turns
  unfolding turn_step
  second_half =
      record {
        answers = follows.answers;
        alone = follows.alone;
        last = follows.last;
        reads_blank = λ i window h l. shows_blank (reads i window h l);
        reads_caption = λ i window c h l. shows_caption (reads i window h l) c;
      }

code : Code
unfolding answered
code =
    record {
      write = code_writes;
      read = code_reads;
      blank = code_blanks;
      turn_write = turn_write;
      turn_clear = turn_clear;
      turn_stranger = turn_stranger;
      turns_in_a_row = λ p k. handed_on (turn_step p k);
      calls_in_a_row = λ p k. handed_on (sheet_step p k);
      model_in_a_row = handed_on model_step;
      answers_in_a_row = λ number. handed_on (turn_model number);
      model_says = λ n. refl;
    }

pub demand3 : Demand3
demand3 = record { second = second_half; any_cipher = follows_book; first = first_half; premises = premises; witnesses = witnesses; code = code; ciphers = classes_by_cipher }
