-- `running_order::gather` meets its contract. The loop's invariant: the numbers of the slots below i that are shown are the first n.
use borrow.Author.Rules.{rules}
use Rattle.layout.proofs.Slots.{slot_of}
use Rattle.running_order.proofs.Numbers.{opens_early, gather_start, gather_few, gather_next, gather_end}
use Rattle.running_order.proofs.gather.Goals as goal

pub loop-i-init : goal.loop-i-init
loop-i-init c = search (gather_start, rules)

pub gather_slot-n-requires : goal.gather_slot-n-requires
gather_slot-n-requires c = record { slot_in = search (slot_of, rules); terms_of = search rules; i_bound = search (opens_early, rules); numbers_len = (search rules, search (gather_few, rules)) }

pub loop-i-preserved : goal.loop-i-preserved
loop-i-preserved c = search (gather_next, rules)

pub returns : goal.returns
returns c = search (gather_end, rules)
