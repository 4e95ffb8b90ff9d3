use borrow.Author.Rules.{rules}
use Rattle.std.proofs.lemmas.Result.{err_from_is_err_and}
use Rattle.captions.specs.Captions.{pair}
use Rattle.verdicts.proofs.Verdicts.{fit_passed, sheet_unfit, sheet_class, sheet_mark, sheet_slot}
use Rattle.verdicts.proofs.sheet_verdict.Goals as goal

pub returns-in_err-fit_verdict : goal.returns-in_err-fit_verdict
returns-in_err-fit_verdict c = search (sheet_unfit, rules)

pub class_verdict-requires : goal.class_verdict-requires
class_verdict-requires c = search (fit_passed, rules)

pub returns-in_err-class_verdict : goal.returns-in_err-class_verdict
returns-in_err-class_verdict c = search (sheet_class, rules)

pub mark_verdict-requires : goal.mark_verdict-requires
mark_verdict-requires c = search (fit_passed, rules)

pub returns-in_err-mark_verdict : goal.returns-in_err-mark_verdict
returns-in_err-mark_verdict c =
    let p = err_from_is_err_and c.from_residual-in_err-mark_verdict.result c.from_residual-in_err-mark_verdict.ensures.1 in rw (p.1, p.2) (sheet_mark c.args.sheet.now c.args.slot (pair c.args.keys.sealing.now c.args.keys.checking.now) c.in_ok-fit_verdict.ensures c.in_ok-class_verdict.ensures _ c.in_err-mark_verdict.ensures)

pub slot_verdict-requires : goal.slot_verdict-requires
slot_verdict-requires c = search (fit_passed, rules)

pub returns : goal.returns
returns c = search (sheet_slot, rules)
