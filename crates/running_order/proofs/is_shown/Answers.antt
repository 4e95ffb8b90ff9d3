-- `running_order::is_shown` meets its contract.
use borrow.Author.Rules.{rules}
use Rattle.running_order.proofs.Numbers.{shown_blank, shown_written}
use Rattle.running_order.proofs.is_shown.Goals as goal

pub returns-then-not-blank_slot : goal.returns-then-not-blank_slot
returns-then-not-blank_slot c = search (shown_written, rules)

pub returns-else-not-blank_slot : goal.returns-else-not-blank_slot
returns-else-not-blank_slot c = search (shown_blank, rules)
