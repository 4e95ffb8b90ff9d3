-- `panels::counter_blocks` meets its contract. The loop's invariant: x-index counter blocks are there, and the counter has wrapped.
use Rattle.std.proofs.Common.{rules}
use Rattle.panels.proofs.Blocks.{counters_none, counters_more, counters_front}
use Rattle.panels.proofs.counter_blocks.Goals as goal

pub loop-x-init : goal.loop-x-init
loop-x-init c = search (counters_none, rules)

pub loop-x-preserved : goal.loop-x-preserved
loop-x-preserved c =
    let l = c.loop-x in
    (counters_more _ l.x-index l.t l.x-items _ l.invariant.0 (search rules) l.invariant.1 c.counter_words.ensures, search rules, search rules, search rules)

pub returns : goal.returns
returns c = let l = c.loop-x in counters_front _ _ l.x-index l.x-items _ l.invariant.0 (search rules) (search rules)
