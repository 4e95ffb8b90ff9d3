-- `layout::fit_sheet` meets its contract.
use borrow.Author.Rules.{rules}
use borrow.Author.Tests.{lt-leb}
use lib.ListN.{length}
use Rattle.layout.proofs.Fits.{fit_short, fit_size, header_inside, fit_rule, fit_slots, sheet_of}
use Rattle.layout.proofs.fit_sheet.Goals as goal
use Rattle.layout.proofs.fit_sheet.Goals.{then-s-ge8, else-s-ge8, then-fit_size, else-fit_size}

pub header_rule-requires : goal.header_rule-requires
header_rule-requires c =
    elim c.if-s-ge8.branch [ then-s-ge8 w ↦ search (header_inside, rules) | else-s-ge8 w ↦ cc (lt-leb 8 (length c.args.s.now) w.if-s-ge8.false) ]

pub sheet_shape-requires : goal.sheet_shape-requires
sheet_shape-requires c =
    elim c.if-s-ge8.branch [
      | then-s-ge8 w ↦ elim c.if-fit_size.branch [ then-fit_size v ↦ search (header_inside, rules) | else-fit_size v ↦ cc ]
      | else-s-ge8 w ↦ elim c.if-fit_size.branch [ then-fit_size v ↦ cc (lt-leb 8 (length c.args.s.now) w.if-s-ge8.false) | else-fit_size v ↦ cc ]
    ]

pub fit_slots-requires-clause-sheet_of : goal.fit_slots-requires-clause-sheet_of
fit_slots-requires-clause-sheet_of c =
    elim c.if-s-ge8.branch [
      | then-s-ge8 w ↦ elim c.if-fit_size.branch [ then-fit_size v ↦ search (sheet_of, rules) | else-fit_size v ↦ cc ]
      | else-s-ge8 w ↦ elim c.if-fit_size.branch [ then-fit_size v ↦ cc (lt-leb 8 (length c.args.s.now) w.if-s-ge8.false) | else-fit_size v ↦ cc ]
    ]

pub returns-then-header_rule : goal.returns-then-header_rule
returns-then-header_rule c =
    elim c.if-s-ge8.branch [
      | then-s-ge8 w ↦ elim c.if-fit_size.branch [ then-fit_size v ↦ search (fit_slots, rules) | else-fit_size v ↦ cc ]
      | else-s-ge8 w ↦ elim c.if-fit_size.branch [ then-fit_size v ↦ cc (lt-leb 8 (length c.args.s.now) w.if-s-ge8.false) | else-fit_size v ↦ cc ]
    ]

pub returns-else-header_rule : goal.returns-else-header_rule
returns-else-header_rule c =
    rw c.if-header_rule.false
    (elim c.if-s-ge8.branch [
      | then-s-ge8 w ↦ elim c.if-fit_size.branch [ then-fit_size v ↦ search (fit_rule, rules) | else-fit_size v ↦ search (fit_size, rules) ]
      | else-s-ge8 w ↦ search (fit_short)
    ])
