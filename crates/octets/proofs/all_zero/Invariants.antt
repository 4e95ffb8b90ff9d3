-- `octets::all_zero` meets its contract. The loop's invariant: x is zero and the bytes still to come are zero exactly where all bytes are.
use Rattle.std.proofs.Common.{◌≡◌, ◌&&◌, drop, eqb}
use Rattle.octets.specs.Bytes.{all_zero}
use Rattle.octets.proofs.all_zero.Given as goal

abbrev pub invariant-loop-b : goal.invariant-loop-b
invariant-loop-b l = eqb l.x 0 && all_zero (drop l.b-index l.s) ≡ all_zero l.s
