use lib.Bits.{xor_lt}
use Rattle.rounds.proofs.Blocks.{masked_lt}
use Rattle.rounds.proofs.pi_cell.Goals as goal

pub returns : goal.returns
returns c = record {
  value = cc;
  small = xor_lt 4 _ _ (xor_lt 4 _ _ (masked_lt _ _ c.nibble.ensures.small) (masked_lt _ _ c.nibble-2.ensures.small))
      (xor_lt 4 _ _ (masked_lt _ _ c.nibble-3.ensures.small) (masked_lt _ _ c.nibble-4.ensures.small));
}
