-- `listing::Text::bytes` meets its contract.
use mathlib.Core.Path.{refl}
use borrow.Author.Rules.{rules}
use Rattle.listing.proofs.Appending.{text_put}
use Rattle.listing.proofs.Text.bytes.Goals as goal

pub returns : goal.returns
returns g c = text_put _ _ _ _ _ _ c.self.view_is (search rules) refl c.copy_part.ensures
