-- A sheet follows the plain model: a relation between a sheet's bytes and a model that each call keeps, then any list of calls, strangers' writes among them.
use Prim.Native.Nat.{ℕ, ◌+◌, ◌<◌}
use mathlib.Core.Path.{◌≡◌, refl, sym, ap, ◌∙◌, subst}
use mathlib.Core.Logic.{◌≢◌}
use mathlib.Core.Bool.{Bool, true, false, not}
use mathlib.Core.List.{List, [], ◌∷◌, ◌++◌}
use native.Mathlib.Decide.{ℕ_discrete}
use native.Mathlib.Omega.{arith}
use lib.Arith.{lt_of_le-ne}
use lib.Dec.{leb, ltb, eqb}
use lib.ListN.{length, get_or, set, length-set, length-replicate, get_or-replicate}
use lib.Seq.{get_or-set_same, get_or-set_other}
use Rattle.std.specs.Prelude.{Ok, Err}
use borrow.Author.Tests.{leb-false, ltb-false, eqb-false}
use Rattle.octets.specs.Bytes.{if◌then◌otherwise◌, Bytes, zeros, same}
use Rattle.octets.specs.Outcome.{decided}
use Rattle.text.specs.Grammar.{well_formed}
use Rattle.layout.specs.Layout.{Edition, slots, last_write, fit_in}
use Rattle.captions.specs.Answers.{Outcome, refusal_number, answer_number, answer_length, outcome}
use Rattle.captions.specs.Captions.{Keys, Ciphers, other_keys, written, cleared}
use Rattle.captions.specs.Calls.{wrong_keys, other_class, unfit_row, key_tests, class_tests, pair_tests, sheet_tests, window_tests, open_tests, caption_tests, write_tests, read_tests, clear_tests, writing_with, clearing_with, reading_with}
use Rattle.captions.specs.Runs.{Reply, finally}
use Rattle.captions.specs.Model.{Call, writes, clears, Page, blank, holds, Model, new_model, page, answered, model_step}
use Rattle.captions.specs.Turns.{Turn, own, stranger, own_calls, EachStranger, none as no_stranger, past, met, turn_model}
use Rattle.captions.specs.Claim.{stepped, step_with, Captions, none, write, clear, AskedOfCalls, shown, SameHeader, Regular, Sound, Fits, TurnedDown, SheetsFollowModel}
use Rattle.captions.specs.declared.Refusal.{Refusal}
use Rattle.captions.specs.declared.Refusal.TheVariants.{WrongKey, TwinKeys, OtherKeyClass, NoSuchSlot, Overlong, Worn, OtherKeys, BrokenText}
use Rattle.captions.proofs.Runs.{Every, done, more, same_replies, related_finally}
use Rattle.captions.proofs.Tables.{end, next, unmet_append, past_rows, row_beside, rows_end}
use Rattle.captions.proofs.Store.{header_refl, header_trans, slots_kept}
use Rattle.captions.proofs.Fitted.{unused_blank}
use Rattle.captions.proofs.Effect.{Effect, rules, keys_passed, classes_passed, last_small, blank_read, clear_effect, write_effect}

pub asked_of_calls : AskedOfCalls
asked_of_calls = record { ask_none = none; ask_write = λ i c calls. write; ask_clear = λ i calls. clear }

-- ---- a sheet and a model

-- the sheet s, come from s₀, shows the model m
pub record Shows (e : Edition) (x : Ciphers) (k : Keys) (s₀ s : List ℕ) (m : Model) : Type 0 where
  pub fits : Fits e x k s
  pub header : SameHeader e.header s₀ s
  pub last : last_write s ≡ m.count
  pub pages : length m.pages ≡ slots s
  pub slot : (i : ℕ) → i < slots s → (window : List ℕ) → length window ≡ 192 → reading_with e x k s i window ≡ shown (page m i)

-- an outcome, and what the model came to
record Follows (e : Edition) (x : Ciphers) (k : Keys) (s₀ : List ℕ) (o : Outcome) (p : Reply × Model) : Type 0 where
  reply : (stepped o).0 ≡ p.0
  shows : Shows e x k s₀ o.bytes p.1

-- a caption is bytes
abbrev pub CallBytes : Call → Type 0
CallBytes (writes i c) = Bytes c
CallBytes (clears i) = Unit {0}

every_caption : {calls : List Call} → Captions calls → Every CallBytes calls
every_caption none = done
every_caption (write b h) = more b (every_caption h)
every_caption (clear h) = more tt (every_caption h)

module _ (e : Edition) (reg : Regular e) (x : Ciphers) (ok : Sound x) (k : Keys) (s₀ s : List ℕ) (m : Model) (r : Shows e x k s₀ s m) where
  refused : (a : Refusal) (n : ℕ) → refusal_number a ≡ n → Follows e x k s₀ (outcome (Err a) s) (answered n, m)
  unfolding outcome answered answer_number answer_length
  refused a n p = record { reply = λ i. record { number = p i; len = 0 }; shows = r }

  accepted : (s' : List ℕ) (m' : Model) → Shows e x k s₀ s' m' → Follows e x k s₀ (outcome (Ok 0) s') (answered 0, m')
  unfolding outcome answered answer_number answer_length
  accepted s' m' h = record { reply = refl; shows = h }

  -- the effect on the sheet is the change of the model
  effect_shows : (j w : ℕ) (p : Page) (s' : List ℕ) → j < slots s → Effect e x k j w p s s'
      → Shows e x k s₀ s' (record { pages = set m.pages j p; count = w })
  unfolding page
  effect_shows j w p s' h f =
      record {
        fits = f.fits;
        header = header_trans r.header f.header;
        last = f.last;
        pages = length-set m.pages j p ∙ r.pages ∙ slots_kept f.header;
        slot = λ i l. go i (omega (arith, slots_kept f.header)) (ℕ_discrete i j);
      }
    where
      go : (i : ℕ) → i < slots s → Dec (i ≡ j) → (window : List ℕ) → length window ≡ 192
          → reading_with e x k s' i window ≡ shown (get_or (set m.pages j p) i blank)
      go i l (yes t) window lw = rw (t, get_or-set_same m.pages j p blank (omega (arith, r.pages))) (f.at window lw)
      go i l (no t) window lw = rw (get_or-set_other m.pages j i p blank t) (f.others i l t window lw ∙ r.slot i l window lw)

  -- the tests that the sheet and the model make alike
  slot_test : (i : ℕ) → leb (slots s) i ≡ leb (length m.pages) i
  slot_test i = ap (λ (n : ℕ). leb n i) (sym r.pages)

  worn_test : eqb (last_write s) 4294967295 ≡ eqb m.count 4294967295
  worn_test = ap (λ (n : ℕ). eqb n 4294967295) r.last

  clear_follows : (i : ℕ) → Follows e x k s₀ (clearing_with e s i) (model_step (clears i) m)
  unfolding clearing_with clear_tests model_step answer_number answer_length
  clear_follows i =
      past_rows (Follows e x k s₀) (unfit_row e s ∷ []) _ _ _ _ (next (ap not r.fits.fits) end)
      (row_beside (Follows e x k s₀) (leb (slots s) i) (leb (length m.pages) i) NoSuchSlot _ _ _ _ _ (slot_test i) (refused NoSuchSlot 6 refl) λ t₆.
      let h : i < slots s = omega (arith, leb-false (length m.pages) i t₆, r.pages) in
      rows_end (Follows e x k s₀) _ _ _ (accepted (cleared e s i) _ (effect_shows i m.count blank (cleared e s i) h
      (subst (λ (n : ℕ). Effect e x k i n blank s (cleared e s i)) r.last (clear_effect e reg x k s r.fits i h)))))

  write_follows : (i : ℕ) (c : List ℕ) → Bytes c → Follows e x k s₀ (writing_with e x k s i c) (model_step (writes i c) m)
  unfolding writing_with write_tests key_tests sheet_tests class_tests caption_tests model_step answer_number answer_length
  write_follows i c bc =
      past_rows (Follows e x k s₀) (key_tests k ++ (unfit_row e s ∷ class_tests e x k s)) _ _ _ _
      (unmet_append (keys_passed e x k s r.fits.passes) (next (ap not r.fits.fits) (classes_passed e x k s r.fits.passes)))
      (row_beside (Follows e x k s₀) (leb (slots s) i) (leb (length m.pages) i) NoSuchSlot _ _ _ _ _ (slot_test i) (refused NoSuchSlot 6 refl) λ t₆.
      row_beside (Follows e x k s₀) (ltb 192 (length c)) (ltb 192 (length c)) Overlong _ _ _ _ _ refl (refused Overlong 7 refl) λ t₇.
      row_beside (Follows e x k s₀) (not (well_formed c)) (not (well_formed c)) BrokenText _ _ _ _ _ refl (refused BrokenText 15 refl) λ t₁₅.
      row_beside (Follows e x k s₀) (eqb (last_write s) 4294967295) (eqb m.count 4294967295) Worn _ _ _ _ _ worn_test (refused Worn 8 refl) λ t₈.
      let h : i < slots s = omega (arith, leb-false (length m.pages) i t₆, r.pages) in
      let left : last_write s < 4294967295 = lt_of_le-ne (last_small e x k s r.fits) (λ q. eqb-false m.count 4294967295 t₈ (sym r.last ∙ q)) in
      rows_end (Follows e x k s₀) _ _ _ (accepted (written x e s i c) _ (effect_shows i (m.count + 1) (holds c) (written x e s i c) h
      (subst (λ (n : ℕ). Effect e x k i (n + 1) (holds c) s (written x e s i c)) r.last
      (write_effect e reg x k s r.fits ok i c h (ltb-false 192 (length c) t₇) bc left)))))

  same_reply : (c : Call) → CallBytes c → (step_with e x k c s).0 ≡ (model_step c m).0
  unfolding step_with
  same_reply (writes i c) b = (write_follows i c b).reply
  same_reply (clears i) b = (clear_follows i).reply

  call_shows : (c : Call) → CallBytes c → Shows e x k s₀ (step_with e x k c s).1 (model_step c m).1
  unfolding step_with
  call_shows (writes i c) b = (write_follows i c b).shows
  call_shows (clears i) b = (clear_follows i).shows

-- ---- a blank sheet shows the new model

module _ (e : Edition) (x : Ciphers) (k : Keys) (s : List ℕ) (g : Fits e x k s) (unused : last_write s ≡ 0) where
  new_shows : Shows e x k s s (new_model (slots s))
  unfolding new_model page
  new_shows =
      record {
        fits = g;
        header = header_refl e.header s;
        last = unused;
        pages = length-replicate (slots s) blank;
        slot = λ i h window l. rw (get_or-replicate (slots s) i blank blank h) (blank_read e x k s g i window h l (unused_blank e s (rules e x k s g) unused i h));
      }

-- ---- the turns of a list

-- a model that is fed the pair's calls alone
model_own : (number : Keys → ℕ) (turns : List Turn) (m : Model) → finally (turn_model number) turns m ≡ finally model_step (own_calls turns) m
unfolding finally turn_model own_calls
model_own number [] m = refl
model_own number (own c ∷ turns) m = model_own number turns (model_step c m).1
model_own number (stranger k i c ∷ turns) m = model_own number turns m

-- a turn of the pair's has a caption of bytes, and a stranger's is turned down
abbrev TurnOk : (Keys → Type 0) → Turn → Type 0
TurnOk P (own c) = CallBytes c
TurnOk P (stranger k i c) = P k

every_turn : {P : Keys → Type 0} (turns : List Turn) → Every CallBytes (own_calls turns) → EachStranger P turns → Every (TurnOk P) turns
unfolding own_calls
every_turn [] h no_stranger = done
every_turn (own c ∷ turns) (more b h) (past g) = more b (every_turn turns h g)
every_turn (stranger k i c ∷ turns) h (met p g) = more p (every_turn turns h g)

-- where strangers leave the state, it is what the pair's calls alone make of it
own_alone : {S T : Type 0} (step : Turn → S → Reply × S) (model : Turn → T → Reply × T) (P : Turn → Type 0) (R : S → T → Type 0)
    → ((k : Keys) (i : ℕ) (c : List ℕ) (s : S) (m : T) → P (stranger k i c) → R s m → (step (stranger k i c) s).1 ≡ s)
    → ((t : Turn) (s : S) (m : T) → P t → R s m → R (step t s).1 (model t m).1)
    → (turns : List Turn) (s : S) (m : T) → Every P turns → R s m → finally step turns s ≡ finally (λ c. step (own c)) (own_calls turns) s
unfolding finally own_calls
own_alone step model P R left kept [] s m done r = refl
own_alone step model P R left kept (own c ∷ turns) s m (more p h) r =
    own_alone step model P R left kept turns (step (own c) s).1 (model (own c) m).1 h (kept (own c) s m p r)
own_alone step model P R left kept (stranger k i c ∷ turns) s m (more p h) r =
    own_alone step model P R left kept turns (step (stranger k i c) s).1 (model (stranger k i c) m).1 h (kept (stranger k i c) s m p r)
    ∙ ap (finally (λ c. step (own c)) (own_calls turns)) (left k i c s m p r)

-- ---- the theorem

pub sheets_follow_model : SheetsFollowModel
sheets_follow_model e x k step number s turns reg ok g unused cap is down =
    record {
      answers = same_replies step (turn_model number) (TurnOk (TurnedDown e step number s)) (Shows e x k s) replied kept s (new_model (slots s)) every first;
      alone = own_alone step (turn_model number) (TurnOk (TurnedDown e step number s)) (Shows e x k s) (λ k' i c s' m b r. rw (b i c s' r.fits.fits r.header)) kept turns s (new_model (slots s)) every first;
      last = final.last;
      fits = final.fits;
      header = final.header;
      reads = λ i window h. final.slot i (omega (arith, slots_kept final.header)) window;
    }
  where
    first : Shows e x k s s (new_model (slots s))
    first = new_shows e x k s g unused

    every : Every (TurnOk (TurnedDown e step number s)) turns
    every = every_turn turns (every_caption cap) down

    replied : (t : Turn) (s' : List ℕ) (m : Model) → TurnOk (TurnedDown e step number s) t → Shows e x k s s' m → (step t s').0 ≡ (turn_model number t m).0
    replied (own c) s' m b r = unfold turn_model in rw (is c s' r.header) (same_reply e reg x ok k s s' m r c b)
    replied (stranger k' i c) s' m b r = unfold turn_model in rw (b i c s' r.fits.fits r.header)

    kept : (t : Turn) (s' : List ℕ) (m : Model) → TurnOk (TurnedDown e step number s) t → Shows e x k s s' m → Shows e x k s (step t s').1 (turn_model number t m).1
    kept (own c) s' m b r = unfold turn_model in rw (is c s' r.header) (call_shows e reg x ok k s s' m r c b)
    kept (stranger k' i c) s' m b r = unfold turn_model in rw (b i c s' r.fits.fits r.header) r

    final : Shows e x k s (finally step turns s) (finally model_step (own_calls turns) (new_model (slots s)))
    final =
        subst (Shows e x k s (finally step turns s)) (model_own number turns (new_model (slots s)))
        (related_finally step (turn_model number) (TurnOk (TurnedDown e step number s)) (Shows e x k s) replied kept s (new_model (slots s)) every first)

-- ---- a stranger

-- a table that begins with 1, 2, 5 and 14, of which one applies; a refusal leaves b
first_of_pair : (t₁ t₂ t₅ t₁₄ : Bool) (b : List ℕ) (rest : Outcome) → ◌≢◌ {A = ℕ} (if t₁ then 1 otherwise if t₂ then 2 otherwise if t₅ then 5 otherwise if t₁₄ then 14 otherwise 0) 0
    → stepped (if t₁ then outcome (Err WrongKey) b otherwise if t₂ then outcome (Err TwinKeys) b otherwise if t₅ then outcome (Err OtherKeyClass) b otherwise if t₁₄ then outcome (Err OtherKeys) b otherwise rest)
    ≡ (answered (if t₁ then 1 otherwise if t₂ then 2 otherwise if t₅ then 5 otherwise if t₁₄ then 14 otherwise 0), b)
unfolding outcome answered answer_number answer_length
first_of_pair true t₂ t₅ t₁₄ b rest n = refl
first_of_pair false true t₅ t₁₄ b rest n = refl
first_of_pair false false true t₁₄ b rest n = refl
first_of_pair false false false true b rest n = refl
first_of_pair false false false false b rest n = absurd (n refl)

-- keys that meet 1, 2, 5 or 14 with a fit sheet get that number
module _ (e : Edition) (x : Ciphers) (k : Keys) (s : List ℕ) (i : ℕ) (fits : fit_in e s ≡ true) (meet : decided (pair_tests e x k s) 0 refusal_number ≢ 0) where
  -- a write changes nothing
  pub turned_down : (c : List ℕ) → stepped (writing_with e x k s i c) ≡ (answered (decided (pair_tests e x k s) 0 refusal_number), s)
  unfolding writing_with write_tests pair_tests key_tests sheet_tests class_tests caption_tests decided answer_number
  turned_down c = rw fits (first_of_pair (wrong_keys k) (same k.sealing k.checking) (other_class k s) (other_keys x e s) s _ meet)

  -- a read zeroes its window
  pub read_down : (window : List ℕ) → length window ≡ 192 → stepped (reading_with e x k s i window) ≡ (answered (decided (pair_tests e x k s) 0 refusal_number), zeros 192)
  unfolding reading_with read_tests open_tests window_tests pair_tests key_tests sheet_tests class_tests decided answer_number
  read_down window l =
      rw (l, fits) (first_of_pair (wrong_keys k) (same k.sealing k.checking) (other_class k s) (other_keys x e s) (zeros 192) _ meet)
