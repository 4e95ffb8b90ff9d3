use mathlib.Core.Path.{ap, ◌∙◌}
use Prim.Native.Nat.{ℕ}
use lib.Bits.{bit_xor, xor_lt}
use Rattle.schedule.proofs.Keys.{t_nibble_is}
use Rattle.schedule.proofs.t_nibble.Goals as goal

pub returns : goal.returns
returns c = let x = c.args in record {
  value = ap (λ (y : ℕ). bit_xor y x.c) c.sub_nibble.ensures.entry ∙ t_nibble_is x.w x.c x.i c.requires.0 c.requires.1;
  small = xor_lt 4 _ _ c.sub_nibble.ensures.small c.requires.0;
}
