-- `modes::chain_part` meets its contract. The loop's invariant: c is C_j.
use Prim.Native.Nat.{◌≤◌}
use mathlib.Core.Path.{◌≡◌}
use mathlib.Core.List.{◌++◌}
use Rattle.octets.specs.Bytes.{zeros}
use Rattle.cipher.specs.Key.{encrypted}
use Rattle.modes.specs.Cmac.{chain_value}
use Rattle.modes.proofs.chain_part.Given as goal

abbrev pub invariant-loop-j : goal.invariant-loop-j
invariant-loop-j l = (l.c ≡ chain_value (encrypted l.k) (zeros 8) (l.head ++ l.rest) l.j) × (l.from ≤ l.j) × (l.j ≤ l.to)
