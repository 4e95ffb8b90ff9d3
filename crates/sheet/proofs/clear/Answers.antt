use borrow.Author.Rules.{rules}
use Rattle.sheet.proofs.Calls.{clear_refused, clear_header, clear_placed, clear_made}
use Rattle.sheet.proofs.clear.Goals as goal

pub returns-in_err-clear_verdict : goal.returns-in_err-clear_verdict
returns-in_err-clear_verdict c = search (clear_refused, rules)

pub sheet_shape-h-requires : goal.sheet_shape-h-requires
sheet_shape-h-requires c = search (clear_header, rules)

pub zero_slot-requires : goal.zero_slot-requires
zero_slot-requires c = search (clear_placed, rules)

pub returns : goal.returns
returns c = search (clear_made, rules)
