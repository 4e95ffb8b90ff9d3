-- `layout::header_rule` meets its contract.
use mathlib.Core.Path.{◌≡◌}
use native.Mathlib.Omega.{arith}
use borrow.Author.Rules.{rules}
use Rattle.layout.proofs.Header.{header_byte, header_long, two_long, rule_other, rule_known, rule_two, rule_none}
use Rattle.layout.proofs.header_rule.Goals as goal

pub byte-edition-requires : goal.byte-edition-requires
byte-edition-requires c = search header_byte

pub class_rule-requires : goal.class_rule-requires
class_rule-requires c = search header_long

pub slice_bounds-all_zero-end : goal.slice_bounds-all_zero-end
slice_bounds-all_zero-end c = search (two_long, rules)

pub returns-in-1 : goal.returns-in-1
returns-in-1 c = search (rule_known)

pub returns-in-2 : goal.returns-in-2
returns-in-2 c = search (rule_two)

pub returns-in_default : goal.returns-in_default
returns-in_default c =
    let one : c.byte-edition.result ≡ 1 → ⊥ = grind arith in
    let two : c.byte-edition.result ≡ 2 → ⊥ = grind arith in
    let three : c.byte-edition.result ≡ 3 → ⊥ = grind arith in
    search (rule_none)

pub returns-else-class_rule : goal.returns-else-class_rule
returns-else-class_rule c = rw c.if-class_rule.false (search (rule_other))
