-- `running_order::put_lines` meets its contract. The loop's invariant: the lines of the numbers below the index are put.
use borrow.Author.Rules.{rules}
use Rattle.running_order.proofs.Lines.{no_lines_put, carried_slot, next_put, lines_put}
use Rattle.running_order.proofs.put_lines.Goals as goal

pub loop-number-init : goal.loop-number-init
loop-number-init c = record { text = search (no_lines_put, rules); short = search rules }

pub put_line-requires : goal.put_line-requires
put_line-requires c = record { slot_in = search (carried_slot, rules); terms_of = search rules; room = search rules }

pub loop-number-preserved : goal.loop-number-preserved
loop-number-preserved c = record { text = search (next_put, rules); short = search rules }

pub returns : goal.returns
returns c = search (lines_put, rules)
