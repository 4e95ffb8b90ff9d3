use borrow.Author.Rules.{rules}
use borrow.Author.Tests.{not-true, not-false}
use Rattle.verdicts.proofs.Verdicts.{fit_no, fit_yes}
use Rattle.verdicts.proofs.fit_verdict.Goals as goal

pub returns-then-not-fit_sheet : goal.returns-then-not-fit_sheet
returns-then-not-fit_sheet c = search (fit_no, not-true, rules)

pub returns : goal.returns
returns c = search (fit_yes, not-false, rules)
