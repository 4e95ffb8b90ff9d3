-- An answer that crosses is the outcome of the call behind it.
use mathlib.Core.Path.{◌≡◌, sym, ap, ap₂, ◌∙◌}
use mathlib.Core.List.{List}
use Prim.Native.Nat.{ℕ}
use Rattle.captions.specs.Answers as Sheets
use Rattle.captions.specs.Answers.{Outcome, outcome}
use Rattle.dated.specs.Calls.{DatedAnswer, DatedOutcome, dated_outcome}
use Rattle.points.specs.Pointed.{answer_pointed, dated_pointed, pointed_outcome}
use Rattle.points.specs.declared.Pointed.{Pointed}
use Rattle.captions_c.specs.Answer.{crossed, plain}
use Rattle.captions_c.specs.declared.Answer.{Answer}

-- outcomes of any kind, made from a number, a length and bytes; the answer a turned out to be v, whose number is n and whose length is 0
pub crosses : {A O : Type 0} (make : ℕ → ℕ → List ℕ → O) (o : A → List ℕ → O) (v a : A) (r : Answer) (n : ℕ) → a ≡ v → r.number ≡ n → r.length ≡ 0
    → ((x : List ℕ) → make n 0 x ≡ o v x) → (x : List ℕ) → make r.number r.length x ≡ o a x
crosses make o v a r n e p q h x = ap₂ (λ (m l : ℕ). make m l x) p q ∙ h x ∙ ap (λ b. o b x) (sym e)

-- what points, and what doesn't
pub crosses_pointed : (p : Pointed) (a : Sheets.Answer) (x : List ℕ) (o : Outcome) → p ≡ answer_pointed a → outcome a x ≡ o → pointed_outcome p x ≡ o
unfolding answer_pointed outcome
crosses_pointed p a x o e h = ap (λ (q : Pointed). pointed_outcome q x) e ∙ h

pub crosses_plain : (p : Pointed) (a : Sheets.Answer) → p ≡ answer_pointed a → (x : List ℕ) → crossed (record { number = p.number; length = p.length }) x ≡ plain (outcome a x)
unfolding answer_pointed outcome
crosses_plain p a e x = ap (λ (q : Pointed). plain (pointed_outcome q x)) e

-- what crosses of a dated read is its outcome
pub crosses_dated : (p : Pointed) (a : DatedAnswer) (x : List ℕ) (d : DatedOutcome) → p ≡ dated_pointed a → dated_outcome a x ≡ d → pointed_outcome p x ≡ d.outcome
unfolding dated_pointed dated_outcome
crosses_dated p a x d e h = ap (λ (q : Pointed). pointed_outcome q x) e ∙ ap (λ (d : DatedOutcome). d.outcome) h
