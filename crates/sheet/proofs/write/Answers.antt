use borrow.Author.Rules.{rules}
use Rattle.sheet.proofs.Calls.{write_refused, write_short, write_slot, write_made}
use Rattle.sheet.proofs.write.Goals as goal

pub returns-in_err-write_verdict : goal.returns-in_err-write_verdict
returns-in_err-write_verdict c = search (write_refused, rules)

pub put_caption-requires : goal.put_caption-requires
put_caption-requires c = (search (write_short, rules), search (write_slot, rules))

pub returns : goal.returns
returns c = search (write_made, rules)
