-- `terms::fit_terms` meets its contract.
use Rattle.std.proofs.Common.{arith}
use Rattle.std.proofs.lemmas.Bool.Decides.{nat_tests}
use Rattle.terms.specs.Terms.{count, fit_terms}
use Rattle.terms.proofs.Terms.{days_all}
use Rattle.terms.proofs.fit_terms.Goals as goal

pub returns-then-t-n : goal.returns-then-t-n
unfolding fit_terms count
returns-then-t-n c = grind (arith, nat_tests, days_all)

pub returns-else-t-n : goal.returns-else-t-n
unfolding fit_terms count
returns-else-t-n c = grind (arith, nat_tests)
