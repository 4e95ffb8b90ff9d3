-- `text::following` meets its contract.
use borrow.Author.Rules.{rules}
use Rattle.text.proofs.Leads.{follows_one, follows_none, follows_two, follows_three, follows_four, follows_above}
use Rattle.text.proofs.following.Goals as goal

pub returns-in-0-to-127 : goal.returns-in-0-to-127
returns-in-0-to-127 c = search (follows_one, rules)

pub returns-in-194-to-223 : goal.returns-in-194-to-223
returns-in-194-to-223 c = search (follows_two, rules)

pub returns-in-224-to-239 : goal.returns-in-224-to-239
returns-in-224-to-239 c = search (follows_three, rules)

pub returns-in-240-to-244 : goal.returns-in-240-to-244
returns-in-240-to-244 c = search (follows_four, rules)

pub returns-in_default : goal.returns-in_default
returns-in_default c = search (follows_none, rules)

pub returns-in_default-2 : goal.returns-in_default-2
returns-in_default-2 c = search (follows_above, rules)
