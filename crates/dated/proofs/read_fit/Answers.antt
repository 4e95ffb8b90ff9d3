-- `dated::read_fit` meets its contract.
use borrow.Author.Rules.{rules}
use borrow.Author.Tests.{not-false}
use Rattle.std.proofs.lemmas.Result.{err_from_is_err_and}
use Rattle.dated.proofs.Read.{header_inside, terms_found, fit_terms_lem, fit_class, fit_late, fit_mark, fit_shown}
use Rattle.dated.proofs.read_fit.Goals as goal

pub sheet_shape-h-requires : goal.sheet_shape-h-requires
sheet_shape-h-requires c = search header_inside

pub returns-then-not-fit_terms : goal.returns-then-not-fit_terms
returns-then-not-fit_terms c = search (fit_terms_lem)

pub returns-in_err-class_verdict : goal.returns-in_err-class_verdict
returns-in_err-class_verdict c = let p = err_from_is_err_and c.from_residual.result c.from_residual.ensures.1 in rw (p.1, p.2) (search (fit_class, not-false, rules))

pub returns-then-day-gt-LAST_DAY : goal.returns-then-day-gt-LAST_DAY
returns-then-day-gt-LAST_DAY c = search (fit_late, not-false, rules)

pub returns-in_err-mark_verdict : goal.returns-in_err-mark_verdict
returns-in_err-mark_verdict c = let p = err_from_is_err_and c.from_residual-in_err-mark_verdict.result c.from_residual-in_err-mark_verdict.ensures.1 in rw (p.1, p.2) (search (fit_mark, not-false, rules))

pub read_shown-requires : goal.read_shown-requires
read_shown-requires c = (search rules, search (terms_found, not-false), search rules)

pub returns : goal.returns
returns c = search (fit_shown, not-false, rules)
