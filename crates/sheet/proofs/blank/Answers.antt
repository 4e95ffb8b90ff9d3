use borrow.Author.Rules.{rules}
use Rattle.sheet.proofs.Calls.{blank_refused, blank_size, blank_count, blank_class, blank_made}
use Rattle.sheet.proofs.blank.Goals as goal

pub returns-in_err-blank_verdict : goal.returns-in_err-blank_verdict
returns-in_err-blank_verdict c = search (blank_refused, rules)

pub put_blank-requires : goal.put_blank-requires
put_blank-requires c = record { sheet_len = search (blank_size, rules); n_bound = (search (blank_count, rules), search (blank_class, rules)) }

pub returns : goal.returns
returns c = search (blank_made, rules)
