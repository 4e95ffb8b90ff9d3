use borrow.Author.Rules.{rules}
use Rattle.sheet.proofs.Calls.{read_refused, read_written, read_window, read_made}
use Rattle.sheet.proofs.read.Goals as goal

pub returns-in_err-read_verdict : goal.returns-in_err-read_verdict
returns-in_err-read_verdict c = search (read_refused, rules)

pub show-requires : goal.show-requires
show-requires c = (read_written _ _ _ _ _ c.fill_zero.ensures c.in_ok-read_verdict.ensures, search (read_window, rules))

pub returns : goal.returns
returns c = search (read_made, rules)
