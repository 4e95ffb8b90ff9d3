-- The pages of the model hold well-formed text alone.
use Prim.Native.Nat.{ℕ, zero, suc, ◌+◌}
use mathlib.Core.Path.{◌≡◌, refl}
use mathlib.Core.Bool.{Bool, true, false, not}
use mathlib.Core.List.{List, [], ◌∷◌}
use lib.Dec.{leb, ltb, eqb}
use lib.ListN.{length, get_or, set, replicate}
use Rattle.octets.specs.Bytes.{if◌then◌otherwise◌}
use Rattle.text.specs.Grammar.{Utf8, well_formed}
use Rattle.text.proofs.Grammar.{reflects_utf8}
use Rattle.captions.specs.Runs.{Reply, finally}
use Rattle.captions.specs.Model.{Call, writes, clears, Page, blank, holds, Model, new_model, page, answered, model_step}
use Rattle.captions.proofs.Runs.{Every, done, more}

pub data Text : Page → Type 0 where
  no_text : Text blank
  text : {c : List ℕ} → Utf8 c → Text (holds c)

pub held_text : {c : List ℕ} → Text (holds c) → Utf8 c
held_text (text t) = t

-- what is said of every element of a list
module _ {A : Type 0} (P : A → Type 0) (x : A) (p : P x) where
  every_set : {xs : List A} (i : ℕ) → Every P xs → Every P (set xs i x)
  every_set i done = done
  every_set zero (more q qs) = more p qs
  every_set (suc i) (more q qs) = more q (every_set i qs)

  every_get_or : {xs : List A} (i : ℕ) → Every P xs → P (get_or xs i x)
  every_get_or i done = p
  every_get_or zero (more q qs) = q
  every_get_or (suc i) (more q qs) = every_get_or i qs

  every_replicate : (n : ℕ) → Every P (replicate n x)
  every_replicate zero = done
  every_replicate (suc n) = more p (every_replicate n)

-- the pages after a call, by its tests
abbrev Texts : Reply × Model → Type 0
Texts r = Every Text r.1.pages

step_texts : (call : Call) (m : Model) → Every Text m.pages → Texts (model_step call m)
unfolding model_step
step_texts (writes i c) m h = go (leb (length m.pages) i) (ltb 192 (length c)) (well_formed c) refl (eqb m.count 4294967295)
  where
    go : (t₆ t₇ t : Bool) → well_formed c ≡ t → (t₈ : Bool)
        → Texts (if t₆ then (answered 6, m) otherwise if t₇ then (answered 7, m) otherwise if not t then (answered 15, m) otherwise if t₈ then (answered 8, m) otherwise (answered 0, record { pages = set m.pages i (holds c); count = m.count + 1 }))
    go true t₇ t e t₈ = h
    go false true t e t₈ = h
    go false false false e t₈ = h
    go false false true e true = h
    go false false true e false = every_set Text (holds c) (text ((reflects_utf8 c).holds e)) i h
step_texts (clears i) m h = go (leb (length m.pages) i)
  where
    go : (t₆ : Bool) → Texts (if t₆ then (answered 6, m) otherwise (answered 0, record { pages = set m.pages i blank; count = m.count }))
    go true = h
    go false = every_set Text blank no_text i h

list_texts : (calls : List Call) (m : Model) → Every Text m.pages → Every Text (finally model_step calls m).pages
unfolding finally
list_texts [] m h = h
list_texts (c ∷ calls) m h = list_texts calls (model_step c m).1 (step_texts c m h)

pub page_text : (n : ℕ) (calls : List Call) (i : ℕ) → Text (page (finally model_step calls (new_model n)) i)
unfolding new_model page
page_text n calls i = every_get_or Text blank no_text i (list_texts calls (new_model n) (every_replicate Text blank no_text n))
