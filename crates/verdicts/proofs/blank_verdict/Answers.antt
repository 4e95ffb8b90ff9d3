use borrow.Author.Rules.{rules}
use Rattle.verdicts.proofs.Verdicts.{blank_class, blank_small, blank_keys, blank_span, blank_size}
use Rattle.verdicts.proofs.blank_verdict.Goals as goal

pub returns-then-not-class_known : goal.returns-then-not-class_known
returns-then-not-class_known c = search (blank_class)

pub returns-in_err-keys_verdict : goal.returns-in_err-keys_verdict
returns-in_err-keys_verdict c = search (blank_keys, rules)

pub returns-then-not-blank_span : goal.returns-then-not-blank_span
returns-then-not-blank_span c = search (blank_span, rules)

pub size_verdict-requires : goal.size_verdict-requires
size_verdict-requires c = search (blank_small)

pub returns : goal.returns
returns c = search (blank_size, rules)
