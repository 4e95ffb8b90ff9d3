use Rattle.verdicts.proofs.Verdicts.{keys_wrong, keys_twin, keys_pass}
use Rattle.verdicts.proofs.keys_verdict.Goals as goal

pub returns-then-wrong_keys : goal.returns-then-wrong_keys
returns-then-wrong_keys c = search keys_wrong

pub returns-then-same_bytes : goal.returns-then-same_bytes
returns-then-same_bytes c = search keys_twin

pub returns : goal.returns
returns c = search keys_pass
