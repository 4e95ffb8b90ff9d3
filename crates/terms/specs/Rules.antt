-- The term sheet rule by rule, in document 02's words: the plain meaning of `fitTerms` and `onShow`.
use Rattle.std.specs.Prelude.{ℕ, ◌+◌, ◌*◌, ◌≤◌, ◌<◌, ◌≡◌, List, length}
use Rattle.terms.specs.Terms.{count, opening, closing}

pub record MeetsTerms (n : ℕ) (t : List ℕ) : Type 0 where
  pub same_count : count t ≡ n
  pub size : length t ≡ 2 + 4 * n
  pub openings : (i : ℕ) → i < n → opening t i ≤ 36524
  pub closings : (i : ℕ) → i < n → closing n t i ≤ 36524

pub record OnShow (n : ℕ) (t : List ℕ) (i day : ℕ) : Type 0 where
  pub from : opening t i ≤ day
  pub to : day ≤ closing n t i
