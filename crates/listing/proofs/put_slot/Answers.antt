-- `listing::put_slot` meets its contract.
use borrow.Author.Rules.{rules}
use Rattle.layout.specs.Layout.{mark_at, sheet_size}
use Rattle.listing.proofs.Lines.{blank_put, written_put}
use Rattle.listing.proofs.put_slot.Goals as goal

pub number-number-requires : goal.number-number-requires
number-number-requires c = unfold mark_at sheet_size in search rules

pub overflow_add-mark : goal.overflow_add-mark
overflow_add-mark c = unfold mark_at in search rules

pub number-len-requires : goal.number-len-requires
number-len-requires c = unfold mark_at sheet_size in search rules

pub returns-then-blank_slot-clause-text : goal.returns-then-blank_slot-clause-text
returns-then-blank_slot-clause-text c = search (blank_put, rules)

pub returns-else-blank_slot-clause-text : goal.returns-else-blank_slot-clause-text
returns-else-blank_slot-clause-text c = search (written_put, rules)
