use borrow.Author.Rules.{rules}
use Rattle.verdicts.proofs.Verdicts.{window_passed, read_window, read_written}
use Rattle.verdicts.proofs.read_verdict.Goals as goal

pub returns-in_err-window_verdict : goal.returns-in_err-window_verdict
returns-in_err-window_verdict c = search (read_window, rules)

pub written_verdict-requires : goal.written_verdict-requires
written_verdict-requires c = search (window_passed, rules)

pub returns : goal.returns
returns c = search (read_written, rules)
