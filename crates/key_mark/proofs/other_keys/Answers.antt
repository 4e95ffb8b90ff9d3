-- `key_mark::other_keys` meets its contract.
use borrow.Author.Rules.{rules}
use Rattle.key_mark.proofs.Mark.{fit_inside, fit_long, mark_none, mark_inside, mark_found}
use Rattle.key_mark.proofs.other_keys.Goals as goal

pub byte-requires : goal.byte-requires
byte-requires c = search fit_long

pub returns-then-byte-ne3 : goal.returns-then-byte-ne3
returns-then-byte-ne3 c = search mark_none

pub sheet_shape-h-requires : goal.sheet_shape-h-requires
sheet_shape-h-requires c = search fit_inside

pub slice_bounds-same_bytes-end-2 : goal.slice_bounds-same_bytes-end-2
slice_bounds-same_bytes-end-2 c = search (mark_inside, rules)

pub returns : goal.returns
returns c = search mark_found
