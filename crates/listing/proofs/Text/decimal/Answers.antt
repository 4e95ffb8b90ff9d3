-- `listing::Text::decimal` meets its contract.
use borrow.Author.Rules.{rules}
use Rattle.listing.proofs.Appending.{text_put}
use Rattle.listing.proofs.Text.decimal.Goals as goal

pub returns : goal.returns
returns g c = text_put _ _ _ _ _ _ c.self.view_is (search rules) c.put_decimal-self-inside.ensures.next c.put_decimal-self-inside.ensures.bytes
