-- `layout::written_after` meets its contract.
use borrow.Author.Rules.{rules}
use borrow.Author.Tests.{leb-true, leb-false, lt-leb}
use Rattle.layout.proofs.Marks.{written_late, written_long, written_zeros}
use Rattle.layout.proofs.written_after.Goals as goal
use Rattle.layout.proofs.written_after.Goals.{then-number-w, else-number-w}

pub returns-then-rest : goal.returns-then-rest
returns-then-rest c = elim c.if-number-w.branch [ then-number-w w ↦ search (written_zeros, leb-true, rules) | else-number-w w ↦ cc (lt-leb c.args.number c.args.w w.if-number-w.false) ]

pub returns-else-rest : goal.returns-else-rest
returns-else-rest c = rw c.if-rest.false (elim c.if-number-w.branch [ then-number-w w ↦ search (written_long, leb-false, rules) | else-number-w w ↦ search (written_late) ])
