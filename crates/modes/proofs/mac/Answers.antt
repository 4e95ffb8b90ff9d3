-- `modes::mac` meets its contract: a law for each step.
use native.Mathlib.Omega.{arith}
use borrow.Author.Rules.{rules}
use Rattle.modes.proofs.Authentication.{one_at_least, rest_inside, last_short, blocks_in_first, blocks_in_second, last_is, tag_is}
use Rattle.modes.proofs.mac.Goals as goal

pub overflow_mul-a : goal.overflow_mul-a
overflow_mul-a c =
    omega (arith, rest_inside c.args.head.now c.args.rest.now _ c.block_count-n.ensures c.requires)

pub slice_bounds-last_block-count : goal.slice_bounds-last_block-count
slice_bounds-last_block-count c = search (rest_inside, rules)

pub slice_bounds-last_block-start : goal.slice_bounds-last_block-start
slice_bounds-last_block-start c = search (rest_inside, rules)

pub last_block-last-requires : goal.last_block-last-requires
last_block-last-requires c = search (last_short, rules)

pub chain_part-c_h-requires : goal.chain_part-c_h-requires
chain_part-c_h-requires c = record { blocks_in = search (blocks_in_first, rules); begin_value = c.chain_start-c0.ensures _ _ }

pub overflow_sub-n : goal.overflow_sub-n
overflow_sub-n c = search (one_at_least, rules)

pub chain_part-c_before-requires : goal.chain_part-c_before-requires
chain_part-c_before-requires c = record { blocks_in = search (blocks_in_second, rules); begin_value = search rules }

pub chain_next-requires : goal.chain_next-requires
chain_next-requires c = record { i_nonzero = (search (one_at_least, rules), search (last_is, rules)); c_value = search rules }

pub returns : goal.returns
returns c = search (tag_is, rules)
