-- `steps` hands each function what it requires, by the laws of the library's own CMAC.
use native.Mathlib.Omega.{arith}
use borrow.Author.Rules.{rules}
use Rattle.modes.proofs.Authentication.{one_at_least, rest_inside, last_short, blocks_in_first, blocks_in_second, last_is}
use Rattle.show_steps.proofs.steps.Goals as goal

pub overflow_mul-a : goal.overflow_mul-a
overflow_mul-a g c =
    omega (arith, rest_inside c.args.head.now c.args.rest.now _ c.block_count-n.ensures c.requires)

pub slice_bounds-last_block-count : goal.slice_bounds-last_block-count
slice_bounds-last_block-count g c = search (rest_inside, rules)

pub slice_bounds-last_block-start : goal.slice_bounds-last_block-start
slice_bounds-last_block-start g c = search (rest_inside, rules)

pub last_block-last-requires : goal.last_block-last-requires
last_block-last-requires g c = search (last_short, rules)

pub part-c_h-requires : goal.part-c_h-requires
part-c_h-requires g c = record { blocks_in = search (blocks_in_first, rules); begin_value = c.chain_start-c0.ensures _ _ }

pub overflow_sub-n : goal.overflow_sub-n
overflow_sub-n g c = search (one_at_least, rules)

pub part-c_before-requires : goal.part-c_before-requires
part-c_before-requires g c = record { blocks_in = search (blocks_in_second, rules); begin_value = search rules }

pub chain_next-requires : goal.chain_next-requires
chain_next-requires g c = record { i_nonzero = (search (one_at_least, rules), search (last_is, rules)); c_value = search rules }
