-- `dated::read_shown` meets its contract.
use borrow.Author.Rules.{rules}
use borrow.Author.Tests.{not-true, not-false}
use Rattle.std.proofs.lemmas.Result.{err_from_is_err_and}
use Rattle.dated.proofs.Read.{header_inside, slot_there, terms_placed, slot_below, written, shown_slot, shown_blank, shown_off, shown_read, shown_altered}
use Rattle.dated.proofs.read_shown.Goals as goal

pub returns-in_err-slot_verdict : goal.returns-in_err-slot_verdict
returns-in_err-slot_verdict c = let p = err_from_is_err_and c.from_residual.result c.from_residual.ensures.1 in rw (p.1, p.2) (search (shown_slot, rules))

pub written_verdict-requires : goal.written_verdict-requires
written_verdict-requires c = search (slot_there, rules)

pub returns-in_err-written_verdict : goal.returns-in_err-written_verdict
returns-in_err-written_verdict c = let p = err_from_is_err_and c.from_residual-in_err-written_verdict.result c.from_residual-in_err-written_verdict.ensures.1 in rw (p.1, p.2) (search (shown_blank, rules))

pub sheet_shape-h-requires : goal.sheet_shape-h-requires
sheet_shape-h-requires c = search header_inside

pub on_show-requires : goal.on_show-requires
on_show-requires c = (search terms_placed, slot_below _ c.requires.0 _ c.sheet_shape-h.ensures _ (slot_there _ c.requires.0 _ c.in_ok-slot_verdict.ensures))

pub returns-then-not-on_show : goal.returns-then-not-on_show
returns-then-not-on_show c = search (shown_off, not-true, rules)

pub show-requires : goal.show-requires
show-requires c = (search (written, slot_there, rules), search rules)

pub returns-in_err-len : goal.returns-in_err-len
returns-in_err-len c = let p = err_from_is_err_and c.from_residual-in_err-len.result c.from_residual-in_err-len.ensures.1 in rw (p.1, p.2) (search (shown_altered, not-false, rules))

pub returns : goal.returns
returns c = search (shown_read, not-false, rules)
