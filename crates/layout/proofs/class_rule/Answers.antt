-- `layout::class_rule` meets its contract.
use borrow.Author.Rules.{rules}
use Rattle.layout.proofs.Header.{classes_three, classes_other}
use Rattle.layout.proofs.class_rule.Goals as goal

pub returns-then-byte-eq3 : goal.returns-then-byte-eq3
returns-then-byte-eq3 c = search (classes_three, rules)

pub returns-else-byte-eq3 : goal.returns-else-byte-eq3
returns-else-byte-eq3 c = search (classes_other, rules)
