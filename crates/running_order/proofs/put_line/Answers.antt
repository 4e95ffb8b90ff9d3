-- `running_order::put_line` meets its contract.
use borrow.Author.Rules.{rules}
use Rattle.layout.specs.Layout.{mark_at, sheet_size}
use Rattle.running_order.proofs.Lines.{line_put}
use Rattle.running_order.proofs.put_line.Goals as goal

pub overflow_add-mark : goal.overflow_add-mark
overflow_add-mark c = unfold mark_at in search rules

pub number-length-requires : goal.number-length-requires
number-length-requires c = unfold mark_at sheet_size in search rules

pub returns-clause-text : goal.returns-clause-text
returns-clause-text c = search (line_put, rules)
