-- A read shows well-formed text alone: a page of the model holds no other.
use Prim.Native.Nat.{ℕ, ◌+◌, ◌-◌, ◌≤◌, ◌<◌}
use mathlib.Core.Path.{◌≡◌, refl, sym, ap, ◌∙◌, subst}
use mathlib.Core.Bool.{Bool, true, false}
use mathlib.Core.List.{List, ◌++◌}
use native.Mathlib.Decide.{ℕ_discrete}
use native.Mathlib.Omega.{arith}
use lib.ListN.{length, take}
use lib.Seq.{take-append-le, take-length}
use Rattle.octets.specs.Bytes.{Bytes, zeros}
use Rattle.text.specs.Grammar.{Utf8}
use Rattle.layout.specs.Layout.{edition_of, slots, key_class, last_write, fit}
use Rattle.captions.specs.Answers.{Outcome}
use Rattle.captions.specs.Captions.{Keys, Ciphers, written}
use Rattle.captions.specs.Calls.{reading}
use Rattle.captions.specs.Runs.{finally}
use Rattle.captions.specs.Model.{Page, blank, holds, page}
use Rattle.captions.specs.Turns.{Turn, own_calls, EachStranger}
use Rattle.captions.specs.Claim.{Captions, shown}
use Rattle.captions.proofs.Store.{slots_kept, key_class_kept}
use Rattle.captions.proofs.Editions.{editions_regular, edition_kept}
use Rattle.captions.proofs.Effect.{Effect, write_effect}
use Rattle.captions.proofs.Texts.{Text, held_text, page_text}
use Rattle.dated.specs.Calls.{dating}
use Rattle.dated.proofs.Laws.{dated_reads}
use Rattle.demands.specs.Ciphers.{by_paths, reading_by}
use Rattle.demands.specs.Steps.{Gives, turn_step, Stranger, Serves, BlankSheet}
use Rattle.demands.specs.Demand1.{NoneApplies}
use Rattle.demands.specs.Demand3.{model_after}
use Rattle.demands.specs.ShownText.{ShowsText, ShownText}
use Rattle.demands.proofs.Ciphers.{same_paths, code_reads}
use Rattle.demands.proofs.Served.{served_keys, served_class, served_fits, served_sound}
use Rattle.demands.proofs.Demand1.{demand1}
use Rattle.demands.proofs.AnyCipher.{shows_caption}
use Rattle.demands.proofs.Demand3.{follows, second_half}

-- the caption that a window shows, and zeros behind it
take_caption : (c z : List ℕ) → take (length c) (c ++ z) ≡ c
take_caption c z = take-append-le (length c) c z (omega arith) ∙ take-length c

-- of a page that is blank or holds text
module _ (o : Outcome) (x : Page) (t : Text x) (is-blank : x ≡ blank → Gives o 9 0 (zeros 192)) (is-caption : (c : List ℕ) → x ≡ holds c → Gives o 0 (length c) (c ++ zeros (192 - length c))) where
  shows_text : ShowsText o
  shows_text h = go x refl t
    where
      go : (y : Page) → x ≡ y → Text y → Utf8 (take o.len o.bytes)
      go blank e u = absurd (omega (arith, h, (is-blank e).number_is))
      go (holds c) e u = let g = is-caption c e in rw (g.len_is, g.bytes_are, take_caption c (zeros (192 - length c))) (held_text u)

-- an accepted read is of a slot that there is, with a window of 192 bytes
module _ (k : Keys) (s : List ℕ) (i : ℕ) (window : List ℕ) (h : (reading k s i window).number ≡ 0) where
  read_slot : i < slots s
  unfolding NoneApplies
  read_slot = let n = (demand1.read k s i window).accepted_exactly_if_none_applies.0 h in omega (arith, n.1.1.1.1.1.1.0)

  read_window : length window ≡ 192
  unfolding NoneApplies
  read_window = go (ℕ_discrete (length window) 192)
    where
      go : Dec (length window ≡ 192) → length window ≡ 192
      go (yes e) = e
      go (no d) = absurd (((demand1.read k s i window).accepted_exactly_if_none_applies.0 h).1.1.0 d)

module _ (p : ℕ) (k : Keys) (s : List ℕ) (turns : List Turn) (serves : Serves k s) (blanked : BlankSheet s) (captions : Captions (own_calls turns)) (each : EachStranger (Stranger s) turns) where
  after : List ℕ
  after = finally (turn_step p k) turns s

  read_text : (p' q i : ℕ) (window : List ℕ) → ShowsText (reading_by p' q k after i window)
  unfolding after
  read_text p' q i window h =
      let a : (reading k after i window).number ≡ 0 = ap (λ (o : Outcome). o.number) (sym (code_reads p' q k after i window)) ∙ h in
      let l : i < slots s = omega (arith, read_slot k after i window a, slots_kept (follows p p' q k s turns serves blanked captions each).header) in
      let half = second_half p p' q k s turns serves blanked captions each in
      shows_text (reading_by p' q k after i window) (page (model_after s turns) i) (page_text (slots s) (own_calls turns) i)
      (half.reads_blank i window l (read_window k after i window a)) (λ c. half.reads_caption i window c l (read_window k after i window a)) h

  dated_text : (t : List ℕ) (i day : ℕ) (window : List ℕ) → ShowsText (dating k after t i day window).outcome
  dated_text t i day window h =
      let beside = dated_reads.beside k after t i day window in
      let same = beside.else_undated (go (dating k after t i day window).unfit_terms refl beside.number_4) (λ e. omega (arith, e, h)) (λ e. omega (arith, e, h)) in
      subst ShowsText (code_reads p p k after i window ∙ sym same) (read_text p p i window) h
    where
      go : (u : Bool) → (dating k after t i day window).unfit_terms ≡ u → (u ≡ true → (dating k after t i day window).outcome.number ≡ 4) → (dating k after t i day window).unfit_terms ≡ false
      go true e f = absurd (omega (arith, f refl, h))
      go false e f = e

-- what a write stores is read, whatever its bytes
module _ (p p' q : ℕ) (k : Keys) (s : List ℕ) (i : ℕ) (c window : List ℕ) (serves : Serves k s) (bytes : Bytes s) (fits : fit s ≡ true) (slot : i < slots s)
    (left : last_write s < 4294967295) (caption : Bytes c) (short : length c ≤ 192) (l : length window ≡ 192) where
  x : Ciphers
  x = by_paths (key_class s) p p k

  s' : List ℕ
  s' = written x (edition_of s) s i c

  effect : Effect (edition_of s) x k i (last_write s + 1) (holds c) s s'
  unfolding x s'
  effect = write_effect (edition_of s) (editions_regular s) x k s (served_fits p p k s serves bytes fits) (served_sound p p k s serves fits) i c slot short caption left

  old_shows : reading_by p' q k s' i window ≡ shown (holds c)
  unfolding reading_by x
  old_shows =
      rw (← key_class_kept effect.header, same_paths k s (served_keys p p k s serves) (served_class p p k s serves) p' q p p, ← edition_kept s s' effect.header) (effect.at window l)

  old_text : Gives (reading_by p' q k (written (by_paths (key_class s) p p k) (edition_of s) s i c) i window) 0 (length c) (c ++ zeros (192 - length c))
  unfolding x s'
  old_text = shows_caption old_shows c refl

pub shown_text : ShownText
unfolding after
shown_text =
    record {
      read = λ p p' q k s turns serves blanked captions each. read_text p k s turns serves blanked captions each p' q;
      dated_read = λ p k s turns serves blanked captions each. dated_text p k s turns serves blanked captions each;
      old = old_text;
    }
