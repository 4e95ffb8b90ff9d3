-- `part` hands `chain_next` what it requires. The loop's invariant: c is C_j.
use Prim.Native.Nat.{◌≤◌}
use mathlib.Core.Path.{◌≡◌}
use mathlib.Core.List.{◌++◌}
use Rattle.octets.specs.Bytes.{zeros}
use Rattle.cipher.specs.Key.{encrypted}
use Rattle.modes.specs.Cmac.{chain_value}
use Rattle.show_steps.proofs.part.Given as goal

abbrev pub invariant-loop-j : goal.invariant-loop-j
invariant-loop-j g l = (l.c ≡ chain_value (encrypted l.k) (zeros 8) (l.head ++ l.rest) l.j) × (l.from ≤ l.j) × (l.j ≤ l.to)
