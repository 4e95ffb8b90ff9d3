-- `listing::put_head` meets its contract.
use Rattle.listing.proofs.Lines.{head_put}
use Rattle.listing.proofs.put_head.Goals as goal

pub returns-clause-text : goal.returns-clause-text
returns-clause-text c = rw (c.field-3.ensures.text, c.field-2.ensures.text, c.field.ensures.text, c.requires.start) (head_put _ _ _)
