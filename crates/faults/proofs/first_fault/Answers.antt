-- `faults::first_fault` meets its contract.
use borrow.Author.Rules.{rules}
use borrow.Author.Tests.{not-true, not-false}
use Rattle.faults.proofs.Header.{fault_short, fault_count, fault_class, fault_edition, fault_zero, fault_rest}
use Rattle.faults.proofs.first_fault.Goals as goal

pub returns-then-s-lt8 : goal.returns-then-s-lt8
returns-then-s-lt8 c = search fault_short

pub returns-then-not-slot_count : goal.returns-then-not-slot_count
returns-then-not-slot_count c = search (fault_count, not-true, rules)

pub returns-then-not-class_rule : goal.returns-then-not-class_rule
returns-then-not-class_rule c = search (fault_class, not-true, not-false, rules)

pub returns-then-not-edition_known : goal.returns-then-not-edition_known
returns-then-not-edition_known c = search (fault_edition, not-true, not-false, rules)

pub returns-in-Some : goal.returns-in-Some
returns-in-Some c = search (fault_zero, not-false, rules)

pub returns : goal.returns
returns c = search (fault_rest, not-false, rules)
