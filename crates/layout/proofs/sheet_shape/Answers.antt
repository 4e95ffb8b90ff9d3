-- `layout::sheet_shape` meets its contract.
use borrow.Author.Rules.{rules}
use Rattle.layout.proofs.Header.{header_long, slots_bytes, class_byte, shape_read}
use Rattle.layout.proofs.sheet_shape.Goals as goal

pub header_size-requires : goal.header_size-requires
header_size-requires c = search header_long

pub number-requires : goal.number-requires
number-requires c = search (slots_bytes, rules)

pub byte-requires : goal.byte-requires
byte-requires c = search class_byte

pub returns : goal.returns
returns c = search (shape_read, rules)
