-- `layout::put_blank` meets its contract.
use borrow.Author.Rules.{rules}
use Rattle.layout.specs.Layout.{sheet_size}
use Rattle.layout.proofs.Stores.{blank_stored, be_two}
use Rattle.layout.proofs.put_blank.Goals as goal

pub copy_part-requires : goal.copy_part-requires
copy_part-requires c = unfold sheet_size in search rules

pub bounds-sheet-2 : goal.bounds-sheet-2
bounds-sheet-2 c = unfold sheet_size in search rules

pub bounds-sheet-3 : goal.bounds-sheet-3
bounds-sheet-3 c = unfold sheet_size in search rules

pub copy_part-requires-2 : goal.copy_part-requires-2
copy_part-requires-2 c = unfold sheet_size in search rules

pub copy_part-requires-3 : goal.copy_part-requires-3
copy_part-requires-3 c = unfold sheet_size in search rules

pub returns : goal.returns
returns c = rw (c.copy_part-3.ensures, c.copy_part-2.ensures, c.copy_part.ensures, c.bytes.ensures, c.to_be_bytes.ensures, be_two c.args.serial) (search (blank_stored, rules))
