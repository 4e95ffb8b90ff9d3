use borrow.Author.Rules.{rules}
use borrow.Author.Tests.{not-true, not-false}
use Rattle.verdicts.proofs.Verdicts.{clear_no, clear_yes}
use Rattle.verdicts.proofs.clear_verdict.Goals as goal

pub returns-then-not-fit_sheet : goal.returns-then-not-fit_sheet
returns-then-not-fit_sheet c = search (clear_no, not-true, rules)

pub returns : goal.returns
returns c = search (clear_yes, not-false, rules)
