use Rattle.verdicts.proofs.Verdicts.{size_no, size_yes}
use Rattle.verdicts.proofs.size_verdict.Goals as goal

pub returns-then-sealing-key_bytes : goal.returns-then-sealing-key_bytes
returns-then-sealing-key_bytes c = search size_no

pub returns : goal.returns
returns c = search size_yes
