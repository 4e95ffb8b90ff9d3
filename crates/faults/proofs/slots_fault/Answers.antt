-- `faults::slots_fault` meets its contract. The loop's invariant: the first fault from slot i on is that from slot 0 on.
use borrow.Author.Rules.{rules}
use borrow.Author.Tests.{not-true, not-false}
use Rattle.layout.proofs.Slots.{slot_of}
use Rattle.faults.proofs.Marks.{slot_unfit, slots_found, slots_next, slots_end}
use Rattle.faults.proofs.slots_fault.Goals as goal

pub fit_slot-requires : goal.fit_slot-requires
fit_slot-requires c = record { slot_in = search (slot_of, rules); w_value = search rules }

pub mark_rule-r-requires : goal.mark_rule-r-requires
mark_rule-r-requires c = (search (slot_of, rules), search rules, search (slot_unfit, not-true))

pub returns-then-not-fit_slot : goal.returns-then-not-fit_slot
returns-then-not-fit_slot c = search (slots_found, rules)

pub loop-i-preserved : goal.loop-i-preserved
loop-i-preserved c = search (slots_next, not-false, rules)

pub returns : goal.returns
returns c = search (slots_end, rules)
