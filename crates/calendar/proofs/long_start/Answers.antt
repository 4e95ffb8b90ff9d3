-- `calendar::long_start` meets its contract.
use native.Mathlib.Omega.{arith}
use Rattle.calendar.proofs.LongYear.{start_line}
use Rattle.calendar.proofs.long_start.Goals as goal

pub returns : goal.returns
returns c = start_line _ (omega arith)
