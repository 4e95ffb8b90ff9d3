-- Demand 3 of a list without strangers: they are turns of the pair's alone.
use Prim.Native.Nat.{ℕ}
use mathlib.Core.Path.{◌≡◌, sym, ap, ◌∙◌}
use mathlib.Core.List.{List, map}
use Rattle.layout.specs.Layout.{edition_of, slots}
use Rattle.captions.specs.Captions.{Keys}
use Rattle.captions.specs.Runs.{finally}
use Rattle.captions.specs.Model.{Call, new_model}
use Rattle.captions.specs.Turns.{own, turn_model}
use Rattle.captions.specs.Claim.{SameHeader, Captions}
use Rattle.demands.specs.Steps.{sheet_step, key_refusal, turn_step, Serves, BlankSheet}
use Rattle.demands.specs.Demand3.{SecondHalf}
use Rattle.demands.specs.NoStrangers.{NoStrangers}
use Rattle.demands.proofs.AnyCipher.{own_calls_lem, no_each, own_replies}
use Rattle.demands.proofs.Demand3.{follows, demand3}

module _ (p p' q : ℕ) (k : Keys) (s : List ℕ) (calls : List Call) (serves : Serves k s) (blank : BlankSheet s) (captions : Captions calls) where
  as_turns : SecondHalf p p' q k s (map own calls)
  as_turns = demand3.second p p' q k s (map own calls) serves blank (rw (own_calls_lem calls) captions) (no_each calls)

  sheet_same : finally (turn_step p k) (map own calls) s ≡ finally (sheet_step p k) calls s
  sheet_same = as_turns.alone ∙ ap (λ (cs : List Call). finally (sheet_step p k) cs s) (own_calls_lem calls)

  pub own_header : SameHeader (edition_of s).header s (finally (sheet_step p k) calls s)
  own_header = rw (← sheet_same) (follows p p' q k s (map own calls) serves blank (rw (own_calls_lem calls) captions) (no_each calls)).header

  pub no_strangers : NoStrangers p p' q k s calls
  unfolding turn_step turn_model
  no_strangers =
      record {
        answers =
            sym (own_replies (turn_step p k) calls s)
            ∙ as_turns.answers
            ∙ own_replies (turn_model (λ k'. key_refusal k' s)) calls (new_model (slots s));
        last = rw (sheet_same, own_calls_lem calls) at as_turns.last;
        reads_blank = λ i window h l. rw (sheet_same, own_calls_lem calls) at (as_turns.reads_blank i window h l);
        reads_caption = λ i window c h l. rw (sheet_same, own_calls_lem calls) at (as_turns.reads_caption i window c h l);
      }
