-- `text::after_ascii` meets its contract.
use Rattle.std.proofs.Common.{arith}
use Rattle.text.proofs.Ways.{passed_more, passes_block, passes_first}
use Rattle.text.proofs.after_ascii.Goals as goal

pub loop-block-preserved : goal.loop-block-preserved
loop-block-preserved c =
    let e = c.in-Some.ensures.cases in
    passed_more _ _ _ c.loop-block.invariant (passes_block _ _ _ e.1 e.2 e.0 (c.is_ascii.ensures c.if-not-is_ascii.false))

pub loop-rest-preserved : goal.loop-rest-preserved
loop-rest-preserved c = passed_more _ _ _ c.loop-rest.invariant (passes_first _ c.in-0-to-127.len_at_least (omega arith))
