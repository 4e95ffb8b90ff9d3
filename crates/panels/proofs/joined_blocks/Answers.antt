-- `panels::joined_blocks` meets its contract. The loop's invariant: i blocks are joined.
use Rattle.std.proofs.Common.{rules}
use Rattle.panels.proofs.Blocks.{joined_none, joined_more, joined_all}
use Rattle.panels.proofs.joined_blocks.Goals as goal

pub loop-i-init : goal.loop-i-init
loop-i-init c = search (joined_none, rules)

pub loop-i-preserved : goal.loop-i-preserved
loop-i-preserved c =
    let l = c.loop-i in
    (joined_more _ l.i l.s _ _ l.invariant.0 (search rules) (search rules) c.copy_part.ensures (search rules), search rules, search rules, search rules)

pub returns : goal.returns
returns c = search (joined_all, rules)
