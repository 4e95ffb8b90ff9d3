use borrow.Author.Rules.{rules}
use Rattle.verdicts.proofs.Verdicts.{write_keys, write_sheet, write_caption, passed_long}
use Rattle.verdicts.proofs.write_verdict.Goals as goal

pub returns-in_err-keys_verdict : goal.returns-in_err-keys_verdict
returns-in_err-keys_verdict c = search (write_keys, rules)

pub returns-in_err-sheet_verdict : goal.returns-in_err-sheet_verdict
returns-in_err-sheet_verdict c = search (write_sheet, rules)

pub caption_verdict-requires : goal.caption_verdict-requires
caption_verdict-requires c = search (passed_long, rules)

pub returns : goal.returns
returns c = search (write_caption, rules)
