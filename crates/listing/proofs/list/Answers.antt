-- `listing::list` meets its contract.
use mathlib.Core.Path.{◌∙◌}
use borrow.Author.Rules.{rules}
use Rattle.listing.proofs.Whole.{listed_none, listed_all, fits_not, fits_all}
use Rattle.listing.proofs.list.Goals as goal

pub returns-then-out-text : goal.returns-then-out-text
returns-then-out-text c = record { outcome = search (listed_none, rules); fits = search (fits_not, rules) }

pub returns : goal.returns
returns c = record { outcome = listed_all _ _ _ (c.as_slice-text.ensures.value ∙ c.put_listing.ensures) (search rules) _ c.copy_part.ensures; fits = search (fits_all, rules) }
