-- `calendar::day_number` meets its contract.
use borrow.Author.Rules.{rules}
use Rattle.calendar.proofs.Ways.{two_fit, three_fit, three_below, number_is}
use Rattle.calendar.proofs.day_number.Goals as goal

pub overflow_add-result : goal.overflow_add-result
overflow_add-result c = search (two_fit, rules)

pub overflow_add-result-2 : goal.overflow_add-result-2
overflow_add-result-2 c = search (three_fit, rules)

pub overflow_sub-result : goal.overflow_sub-result
overflow_sub-result c = search (three_below, rules)

pub returns : goal.returns
returns c = search (number_is, rules)
