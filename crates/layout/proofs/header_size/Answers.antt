-- `layout::header_size` meets its contract.
use borrow.Author.Rules.{rules}
use Rattle.layout.proofs.Header.{size_two, size_one}
use Rattle.layout.proofs.header_size.Goals as goal

pub returns-then-has_serial : goal.returns-then-has_serial
returns-then-has_serial c = search (size_two, rules)

pub returns-else-has_serial : goal.returns-else-has_serial
returns-else-has_serial c = search (size_one, rules)
