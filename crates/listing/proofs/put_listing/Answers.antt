-- `listing::put_listing` meets its contract.
use borrow.Author.Rules.{rules}
use Rattle.listing.proofs.Whole.{unfit_put, sheet_long, sheet_header, sheet_of, class_small, slots_small, listing_put}
use Rattle.listing.proofs.put_listing.Goals as goal

pub returns-then-not-can_list : goal.returns-then-not-can_list
returns-then-not-can_list c = search (unfit_put, rules)

pub sheet_shape-h-requires : goal.sheet_shape-h-requires
sheet_shape-h-requires c = search (sheet_header, rules)

pub key_bits-requires : goal.key_bits-requires
key_bits-requires c = search (class_small, rules)

pub last_write-requires : goal.last_write-requires
last_write-requires c = search (sheet_long, rules)

pub put_head-requires : goal.put_head-requires
put_head-requires c = record { start = search rules; n_bound = (search (slots_small, rules), search rules, search rules) }

pub put_slots-requires : goal.put_slots-requires
put_slots-requires c = record { sheet_of = search (sheet_of, rules); room = search rules }

pub returns : goal.returns
returns c = search (listing_put, rules)
