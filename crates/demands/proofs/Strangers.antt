-- A stranger's write answers the number that his keys meet with the sheet, on every sheet with the same header, and changes nothing.
use Prim.Native.Nat.{ℕ}
use mathlib.Core.Path.{◌≡◌, sym, ap, ◌∙◌}
use mathlib.Core.Bool.{true}
use mathlib.Core.Logic.{◌≢◌}
use mathlib.Core.List.{List}
use lib.ListN.{length}
use Rattle.octets.specs.Bytes.{zeros}
use Rattle.layout.specs.Layout.{edition_of, key_class, fit_in, fit}
use Rattle.captions.specs.Answers.{Outcome}
use Rattle.captions.specs.Captions.{Keys}
use Rattle.captions.specs.Model.{answered}
use Rattle.captions.specs.Claim.{stepped, SameHeader, TurnedDown}
use Rattle.captions.proofs.Store.{key_class_kept}
use Rattle.captions.proofs.Editions.{editions_regular, edition_kept}
use Rattle.captions.proofs.Effect.{pair_kept}
use Rattle.captions.proofs.Simulation.{turned_down, read_down}
use Rattle.demands.specs.Ciphers.{by_paths, writing_by, reading_by}
use Rattle.demands.specs.Steps.{key_refusal, turn_step, Stranger}
use Rattle.demands.proofs.Ciphers.{code_writes, code_reads}

pub stranger_write : (p : ℕ) (k : Keys) (s : List ℕ) (i : ℕ) (c : List ℕ) → fit s ≡ true → key_refusal k s ≢ 0
    → stepped (writing_by p k s i c) ≡ (answered (key_refusal k s), s)
unfolding fit key_refusal writing_by
stranger_write p k s i c f h =
    ap (λ (o : Outcome). stepped o) (code_writes p k s i c ∙ sym (code_writes 0 k s i c))
    ∙ turned_down (edition_of s) (by_paths (key_class s) 0 0 k) k s i f h c

pub stranger_read : (p q : ℕ) (k : Keys) (s : List ℕ) (i : ℕ) (window : List ℕ) → fit s ≡ true → key_refusal k s ≢ 0 → length window ≡ 192
    → stepped (reading_by p q k s i window) ≡ (answered (key_refusal k s), zeros 192)
unfolding fit key_refusal reading_by
stranger_read p q k s i window f h l =
    ap (λ (o : Outcome). stepped o) (code_reads p q k s i window ∙ sym (code_reads 0 0 k s i window))
    ∙ read_down (edition_of s) (by_paths (key_class s) 0 0 k) k s i f h window l

refusal_kept : (k : Keys) (s s' : List ℕ) → SameHeader (edition_of s).header s s' → key_refusal k s' ≡ key_refusal k s
unfolding key_refusal
refusal_kept k s s' h = rw (← edition_kept s s' h, ← key_class_kept h, ← pair_kept (edition_of s) (editions_regular s) (by_paths (key_class s) 0 0 k) k s s' h)

pub stranger_down : (p : ℕ) (k : Keys) (s : List ℕ) (k' : Keys) → Stranger s k' → TurnedDown (edition_of s) (turn_step p k) (λ k''. key_refusal k'' s) s k'
unfolding turn_step
stranger_down p k s k' str i c s' f h =
    let e = refusal_kept k' s s' h in
    stranger_write p k' s' i c (fits f) (λ z. str (sym e ∙ z)) ∙ ap (λ n. (answered n, s')) e
  where
    fits : fit_in (edition_of s) s' ≡ true → fit s' ≡ true
    fits g = unfold fit in rw (← edition_kept s s' h) g
