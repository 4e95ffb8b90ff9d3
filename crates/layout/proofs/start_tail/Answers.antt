-- `layout::start_tail` meets its contract.
use borrow.Author.Rules.{rules}
use Rattle.layout.proofs.Header.{header_byte, serial_inside, tail_two, tail_one}
use Rattle.layout.proofs.start_tail.Goals as goal

pub byte-requires : goal.byte-requires
byte-requires c = search header_byte

pub number-requires : goal.number-requires
number-requires c = search (serial_inside, rules)

pub returns-then-has_serial : goal.returns-then-has_serial
returns-then-has_serial c = search tail_two

pub returns-else-has_serial : goal.returns-else-has_serial
returns-else-has_serial c = search tail_one
