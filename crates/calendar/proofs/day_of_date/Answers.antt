-- `calendar::day_of_date` meets its contract.
use borrow.Author.Rules.{rules}
use borrow.Author.Tests.{not-true, not-false}
use Rattle.calendar.proofs.Ways.{refused, tested, number_fits, accepted_date}
use Rattle.calendar.proofs.day_of_date.Goals as goal

pub returns-then-not-is_date : goal.returns-then-not-is_date
returns-then-not-is_date c = search (refused, not-true, rules)

pub day_number-requires : goal.day_number-requires
day_number-requires c = search (tested, not-false, rules)

pub overflow_cast-result : goal.overflow_cast-result
overflow_cast-result c = search (number_fits, not-false, rules)

pub returns : goal.returns
returns c = search (accepted_date, not-false, rules)
