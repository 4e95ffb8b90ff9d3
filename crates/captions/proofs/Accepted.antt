-- A call that answers 0 is accepted: no test of its table applies, and what it comes to, of any edition and with any ciphers.
use Prim.Native.Nat.{ℕ}
use mathlib.Core.Path.{◌≡◌, refl}
use mathlib.Core.Bool.{true, false}
use mathlib.Core.List.{List, [], ◌∷◌}
use native.Mathlib.Omega.{arith}
use Rattle.std.specs.Prelude.{Ok, Err}
use Rattle.octets.specs.Outcome.{Row, ◌gives◌, decided}
use Rattle.layout.specs.Layout.{Edition, mark_length, mark, blank_sheet}
use Rattle.captions.specs.Answers.{refusal_number, answer_number, outcome}
use Rattle.captions.specs.Captions.{Keys, Ciphers, key_mark, written, cleared, opened}
use Rattle.captions.specs.Calls.{write_tests, clear_tests, read_tests, blank_tests, writing_with, clearing_with, reading_with, blanking_with}
use Rattle.captions.specs.declared.Refusal.{Refusal}
use Rattle.captions.specs.declared.Refusal.TheVariants.{WrongKey, TwinKeys, WrongSpan, UnfitSheet, OtherKeyClass, NoSuchSlot, Overlong, Worn, Blank, Altered, OtherKeys, BrokenText}
use Rattle.captions.proofs.Tables.{Unmet, end, next, decided_unmet}

-- no refusal has the number 0
refuses : (r : Refusal) → refusal_number r ≡ 0 → ⊥
refuses WrongKey e = omega (arith, e)
refuses TwinKeys e = omega (arith, e)
refuses WrongSpan e = omega (arith, e)
refuses (UnfitSheet f) e = omega (arith, e)
refuses OtherKeyClass e = omega (arith, e)
refuses NoSuchSlot e = omega (arith, e)
refuses Overlong e = omega (arith, e)
refuses Worn e = omega (arith, e)
refuses Blank e = omega (arith, e)
refuses (Altered i c) e = omega (arith, e)
refuses OtherKeys e = omega (arith, e)
refuses BrokenText e = omega (arith, e)

-- a call by a table, that answers n and leaves new where it is accepted
module _ (n : ℕ) (new : List ℕ) (old : Refusal → List ℕ) where
  pub accepted_unmet : (rows : List (Row Refusal)) → (decided rows (outcome (Ok n) new) (λ r. outcome (Err r) (old r))).number ≡ 0 → Unmet rows
  unfolding decided outcome answer_number
  accepted_unmet [] h = end
  accepted_unmet ((true gives r) ∷ rows) h = absurd (refuses r h)
  accepted_unmet ((false gives r) ∷ rows) h = next refl (accepted_unmet rows h)

  accepted_is : (rows : List (Row Refusal)) → (decided rows (outcome (Ok n) new) (λ r. outcome (Err r) (old r))).number ≡ 0
      → decided rows (outcome (Ok n) new) (λ r. outcome (Err r) (old r)) ≡ outcome (Ok n) new
  accepted_is rows h = decided_unmet rows _ _ (accepted_unmet rows h)

module _ (e : Edition) (x : Ciphers) (k : Keys) (s : List ℕ) (i : ℕ) where
  pub zero_read : (window : List ℕ) → (reading_with e x k s i window).number ≡ 0
      → reading_with e x k s i window ≡ outcome (Ok (mark_length (mark e s i))) (opened x e s i)
  unfolding reading_with
  zero_read window = accepted_is _ _ _ (read_tests e x k s i window)

  pub zero_write : (c : List ℕ) → (writing_with e x k s i c).number ≡ 0 → writing_with e x k s i c ≡ outcome (Ok 0) (written x e s i c)
  unfolding writing_with
  zero_write c = accepted_is _ _ _ (write_tests e x k s i c)

module _ (e : Edition) (s : List ℕ) (i : ℕ) where
  pub zero_clear : (clearing_with e s i).number ≡ 0 → clearing_with e s i ≡ outcome (Ok 0) (cleared e s i)
  unfolding clearing_with
  zero_clear = accepted_is _ _ _ (clear_tests e s i)

module _ (x : Ciphers) (k : Keys) (b : List ℕ) (n t v : ℕ) where
  pub zero_blank : (blanking_with x k b n t v).number ≡ 0 → blanking_with x k b n t v ≡ outcome (Ok 0) (blank_sheet n t v (key_mark x n t v))
  unfolding blanking_with
  zero_blank = accepted_is _ _ _ (blank_tests k b n t)
