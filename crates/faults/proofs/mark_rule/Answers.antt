-- `faults::mark_rule` meets its contract.
use borrow.Author.Rules.{rules}
use Rattle.faults.proofs.Marks.{rule_zero, rule_late, rule_long, rule_six, rule_seven}
use Rattle.faults.proofs.mark_rule.Goals as goal

pub returns-then-x-eq0 : goal.returns-then-x-eq0
returns-then-x-eq0 c = search (rule_zero, rules)

pub returns-then-w-x : goal.returns-then-w-x
returns-then-w-x c = search (rule_late, rules)

pub returns-then-number-gt192 : goal.returns-then-number-gt192
returns-then-number-gt192 c = search (rule_long, rules)

pub returns-then-byte-ne0 : goal.returns-then-byte-ne0
returns-then-byte-ne0 c = search (rule_six, rules)

pub returns : goal.returns
returns c = search (rule_seven, rules)
