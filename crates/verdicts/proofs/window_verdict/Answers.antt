use borrow.Author.Rules.{rules}
use Rattle.verdicts.proofs.Verdicts.{window_keys, window_span, window_sheet}
use Rattle.verdicts.proofs.window_verdict.Goals as goal

pub returns-in_err-keys_verdict : goal.returns-in_err-keys_verdict
returns-in_err-keys_verdict c = search (window_keys, rules)

pub returns-then-n-ne192 : goal.returns-then-n-ne192
returns-then-n-ne192 c = search (window_span, rules)

pub returns : goal.returns
returns c = search (window_sheet, rules)
