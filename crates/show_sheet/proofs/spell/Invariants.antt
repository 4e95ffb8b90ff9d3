-- `spell` is safe: x stays below 95, so that 32 + x is a byte.
use Prim.Native.Nat.{◌<◌}
use Rattle.show_sheet.proofs.spell.Given as goal

abbrev pub invariant-loop-b : goal.invariant-loop-b
invariant-loop-b l = l.x < 95
