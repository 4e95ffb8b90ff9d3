use native.Mathlib.Omega.{arith}
use Rattle.chip_bench.proofs.Calls.{round_0, round_r, led}
use Rattle.chip_bench.proofs.leading_block.Goals as goal

pub register_at-v-requires : goal.register_at-v-requires
register_at-v-requires c = (round_0 _ _ c.start.ensures, c.requires)

pub take_back-requires : goal.take_back-requires
take_back-requires c = omega (arith, c.requires, round_r _ _ c.start.ensures _ _ c.register_at-v.ensures)

pub returns : goal.returns
returns c = led _ _ c.start.ensures _ _ c.register_at-v.ensures _ _ _ _ c.block_words.ensures c.take_back.ensures c.block_bytes.ensures
