-- `panels::add_bytes` meets its contract. The loop's invariant: what remains is what there was to do.
use Rattle.std.proofs.Common.{rules}
use Rattle.panels.proofs.Blocks.{added_none, added_more, added_all}
use Rattle.panels.proofs.add_bytes.Goals as goal

pub loop-i-init : goal.loop-i-init
loop-i-init c = search (added_none, rules)

pub loop-i-preserved : goal.loop-i-preserved
loop-i-preserved c = search (added_more, rules)

pub returns : goal.returns
returns c = search (added_all, rules)
