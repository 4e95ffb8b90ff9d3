-- `terms::fit_days` meets its contract. The loop's invariant: the days below j are at most the last.
use borrow.Author.Rules.{rules}
use borrow.Author.Tests.{not-true, not-false}
use Rattle.octets.proofs.Compare.{all_below_none}
use Rattle.terms.proofs.Terms.{days_stop, days_next, days_end}
use Rattle.terms.proofs.fit_days.Goals as goal

pub loop-j-init : goal.loop-j-init
loop-j-init c = search (all_below_none, rules)

pub returns-then-not-fit_day : goal.returns-then-not-fit_day
returns-then-not-fit_day c = search (days_stop, not-true, rules)

pub loop-j-preserved : goal.loop-j-preserved
loop-j-preserved c = search (days_next, not-false, rules)

pub returns : goal.returns
returns c = search (days_end, rules)
