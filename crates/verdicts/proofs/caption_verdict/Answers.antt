use borrow.Author.Rules.{rules}
use borrow.Author.Tests.{not-true, not-false}
use Rattle.verdicts.proofs.Verdicts.{caption_long, caption_broken, caption_worn, caption_pass}
use Rattle.verdicts.proofs.caption_verdict.Goals as goal

pub returns-then-caption-gt192 : goal.returns-then-caption-gt192
returns-then-caption-gt192 c = search caption_long

pub returns-then-not-well_formed : goal.returns-then-not-well_formed
returns-then-not-well_formed c = search (caption_broken, not-true, rules)

pub returns-then-last_write-eq4294967295 : goal.returns-then-last_write-eq4294967295
returns-then-last_write-eq4294967295 c = search (caption_worn, not-false, rules)

pub returns : goal.returns
returns c = search (caption_pass, not-false, rules)
