-- The second half of demand 3 holds for any invertible cipher. The pair's calls are turns of a list without strangers.
use Prim.Native.Nat.{ℕ, ◌-◌}
use mathlib.Core.Path.{◌≡◌, refl, sym, ap, ◌∙◌}
use mathlib.Core.List.{List, [], ◌∷◌, ◌++◌, map}
use lib.ListN.{length}
use Rattle.std.specs.Prelude.{Ok, Err}
use Rattle.octets.specs.Bytes.{zeros}
use Rattle.octets.specs.Block.{ByteBlock, Invertible}
use Rattle.layout.specs.Layout.{edition_of, slots, fit}
use Rattle.captions.specs.Captions.{Keys, Ciphers, padded}
use Rattle.captions.specs.Calls.{pair_tests, clearing}
use Rattle.captions.specs.Answers.{Outcome, answer_number, answer_length, first_of}
use Rattle.captions.specs.declared.Refusal.TheVariants.{Blank}
use Rattle.captions.specs.Runs.{Reply, finally, replies}
use Rattle.captions.specs.Model.{Call, writes, clears, Page, blank, holds, new_model}
use Rattle.captions.specs.Turns.{Turn, own, stranger, own_calls, EachStranger, none as no_stranger, past, turn_model}
use Rattle.captions.specs.Claim.{SameHeader, Captions, FollowsModel, step_with, shown}
use Rattle.captions.proofs.Editions.{editions_regular, edition_kept}
use Rattle.captions.proofs.Simulation.{sheets_follow_model}
use Rattle.demands.specs.Steps.{Gives, BlankSheet}
use Rattle.demands.specs.AnyCipher.{step_by, FollowsBook}
use Rattle.demands.proofs.Gives.{gives}

-- ---- what a read shows of a page, in plain values

module _ {o : Outcome} {x : Page} (e : o ≡ shown x) where
  pub shows_blank : x ≡ blank → Gives o 9 0 (zeros 192)
  unfolding shown answer_number answer_length
  shows_blank h = gives (Err Blank) (zeros 192) (e ∙ ap shown h)

  pub shows_caption : (c : List ℕ) → x ≡ holds c → Gives o 0 (length c) (c ++ zeros (192 - length c))
  unfolding shown padded answer_number answer_length
  shows_caption c h = gives (Ok (length c)) (padded c) (e ∙ ap shown h)

-- ---- a list without strangers

pub own_calls_lem : (calls : List Call) → own_calls (map own calls) ≡ calls
unfolding own_calls
own_calls_lem [] = refl
own_calls_lem (c ∷ calls) = ap (λ (cs : List Call). c ∷ cs) (own_calls_lem calls)

pub no_each : {P : Keys → Type 0} (calls : List Call) → EachStranger P (map own calls)
no_each [] = no_stranger
no_each (c ∷ calls) = past (no_each calls)

-- a machine that is fed the pair's calls as turns
pub own_replies : {S : Type 0} (turn : Turn → S → Reply × S) (calls : List Call) (s : S) → replies turn (map own calls) s ≡ replies (λ c. turn (own c)) calls s
unfolding replies
own_replies turn [] s = refl
own_replies turn (c ∷ calls) s = ap (λ (rs : List Reply). (turn (own c) s).0 ∷ rs) (own_replies turn calls (turn (own c) s).1)

-- ---- any cipher

module _ (x : Ciphers) (k : Keys) (s : List ℕ) where
  -- what a stranger would be given is nowhere asked
  turn_by : Turn → List ℕ → Reply × List ℕ
  turn_by (own c) s' = step_by x k c s'
  turn_by (stranger k' i c) s' = step_by x k (clears i) s'

  same_step : (c : Call) (s' : List ℕ) → SameHeader (edition_of s).header s s' → step_by x k c s' ≡ step_with (edition_of s) x k c s'
  unfolding step_by clearing step_with
  same_step (writes i c) s' h = rw (edition_kept s s' h)
  same_step (clears i) s' h = rw (edition_kept s s' h)

  module _ (calls : List Call) (seals : Invertible x.E x.D) (checks : (b : List ℕ) → ByteBlock b → ByteBlock (x.M b)) (fresh : BlankSheet s)
      (passes : first_of (pair_tests (edition_of s) x k s) ≡ Ok tt) (captions : Captions calls) where
    follows : FollowsModel (edition_of s) x k turn_by (λ k'. 0) s (map own calls)
    unfolding turn_by fit
    follows =
        sheets_follow_model (edition_of s) x k turn_by (λ k'. 0) s (map own calls) (editions_regular s)
        (record { seals = seals; checks = checks }) (record { bytes = fresh.bytes; fits = fresh.fits; passes = passes }) fresh.unused
        (rw (own_calls_lem calls) captions) same_step (no_each calls)

    sheet_same : finally turn_by (map own calls) s ≡ finally (step_by x k) calls s
    unfolding turn_by
    sheet_same = follows.alone ∙ ap (λ (cs : List Call). finally (step_by x k) cs s) (own_calls_lem calls)

    pub follows_book : FollowsBook x k s calls
    unfolding turn_by turn_model
    follows_book =
        record {
          answers = sym (own_replies turn_by calls s) ∙ follows.answers ∙ own_replies (turn_model (λ k'. 0)) calls (new_model (slots s));
          reads_blank = λ i window h l. shows_blank (rw (sheet_same, own_calls_lem calls) at (follows.reads i window h l));
          reads_caption = λ i window c h l. shows_caption (rw (sheet_same, own_calls_lem calls) at (follows.reads i window h l)) c;
        }
