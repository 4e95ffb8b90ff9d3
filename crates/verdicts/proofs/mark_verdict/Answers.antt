use Rattle.verdicts.proofs.Verdicts.{mark_no, mark_yes}
use Rattle.verdicts.proofs.mark_verdict.Goals as goal

pub returns-then-other_keys : goal.returns-then-other_keys
returns-then-other_keys c = search mark_no

pub returns : goal.returns
returns c = search mark_yes
