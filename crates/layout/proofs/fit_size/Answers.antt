-- `layout::fit_size` meets its contract.
use Rattle.layout.proofs.Header.{count_few, size_few, size_count, size_found}
use Rattle.layout.proofs.fit_size.Goals as goal

pub sheet_size-requires : goal.sheet_size-requires
sheet_size-requires c = (search (size_few), search (count_few))

pub returns-then-slot_count : goal.returns-then-slot_count
returns-then-slot_count c = search (size_found)

pub returns-else-slot_count : goal.returns-else-slot_count
returns-else-slot_count c = rw c.if-slot_count.false (search (size_count))
