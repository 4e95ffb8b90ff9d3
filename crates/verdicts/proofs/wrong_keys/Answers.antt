use borrow.Author.Rules.{rules}
use borrow.Author.Tests.{not-true, not-false}
use Rattle.verdicts.proofs.Verdicts.{wrong_sealing, wrong_checking, lengths_left}
use Rattle.verdicts.proofs.wrong_keys.Goals as goal
use Rattle.verdicts.proofs.wrong_keys.Goals.{then-not-sheet_key_length, else-not-sheet_key_length}

pub returns-then-not-sheet_key_length-2 : goal.returns-then-not-sheet_key_length-2
returns-then-not-sheet_key_length-2 c =
    rw c.if-not-sheet_key_length-2.true
    (elim c.if-not-sheet_key_length.branch [
      | then-not-sheet_key_length w ↦ search (wrong_sealing, not-true, rules)
      | else-not-sheet_key_length w ↦ search (wrong_checking, not-true, not-false, rules)
    ])

pub returns-else-not-sheet_key_length-2 : goal.returns-else-not-sheet_key_length-2
returns-else-not-sheet_key_length-2 c =
    elim c.if-not-sheet_key_length.branch [
      | then-not-sheet_key_length w ↦ cc
      | else-not-sheet_key_length w ↦ search (lengths_left, not-false, rules)
    ]
