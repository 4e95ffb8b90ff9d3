-- `listing::put_slots` meets its contract. The loop's invariant: the lines of the slots below i are put.
use borrow.Author.Rules.{rules}
use Rattle.layout.proofs.Slots.{slot_of}
use Rattle.listing.proofs.Lines.{no_slots_put, slot_put, slots_put}
use Rattle.listing.proofs.put_slots.Goals as goal

pub loop-i-init : goal.loop-i-init
loop-i-init c = record { text = search (no_slots_put, rules); short = search rules }

pub put_slot-requires : goal.put_slot-requires
put_slot-requires c = record { slot_in = search (slot_of, rules); room = search rules }

pub loop-i-preserved : goal.loop-i-preserved
loop-i-preserved c = record { text = search (slot_put, rules); short = search rules }

pub returns : goal.returns
returns c = search (slots_put, rules)
