-- `dated::dated_read` meets its contract.
use borrow.Author.Rules.{rules}
use Rattle.std.proofs.lemmas.Result.{err_from_is_err_and}
use Rattle.dated.proofs.Read.{dated_keys, dated_span, dated_unfit, dated_fit_lem, window_zero, sheet_fits}
use Rattle.dated.proofs.dated_read.Goals as goal

pub returns-in_err-keys_verdict : goal.returns-in_err-keys_verdict
returns-in_err-keys_verdict c = let p = err_from_is_err_and c.from_residual.result c.from_residual.ensures.1 in rw (p.1, p.2) (search (dated_keys, rules))

pub returns-then-window-ne192 : goal.returns-then-window-ne192
returns-then-window-ne192 c = search (dated_span, rules)

pub returns-in_err-fit_verdict : goal.returns-in_err-fit_verdict
returns-in_err-fit_verdict c = let p = err_from_is_err_and c.from_residual-in_err-fit_verdict.result c.from_residual-in_err-fit_verdict.ensures.1 in rw (p.1, p.2) (search (dated_unfit, rules))

pub read_fit-requires : goal.read_fit-requires
read_fit-requires c = (search (sheet_fits, rules), search (window_zero, rules))

pub returns : goal.returns
returns c = search (dated_fit_lem, rules)
