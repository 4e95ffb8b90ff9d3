-- `faults::size_fault` meets its contract.
use borrow.Author.Rules.{rules}
use Rattle.layout.proofs.Fits.{header_inside, sheet_of}
use Rattle.faults.proofs.Header.{size_wrong, size_right}
use Rattle.faults.proofs.size_fault.Goals as goal

pub returns-then-not-fit_size : goal.returns-then-not-fit_size
returns-then-not-fit_size c = search (size_wrong)

pub sheet_shape-requires : goal.sheet_shape-requires
sheet_shape-requires c = search (header_inside)

pub slots_fault-requires : goal.slots_fault-requires
slots_fault-requires c = (search (sheet_of), search rules)

pub returns : goal.returns
returns c = search (size_right)
