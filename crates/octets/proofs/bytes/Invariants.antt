-- `octets::bytes` meets its contract. The loop's invariant: the bytes so far are those of x.
use Rattle.std.proofs.Common.{◌≡◌, ◌<◌, ℕ, get_or, length}
use Rattle.octets.specs.Bytes.{be}
use Rattle.octets.proofs.bytes.Given as goal

abbrev pub invariant-loop-i : goal.invariant-loop-i
invariant-loop-i g l = (length l.b-items ≡ g.row.N) × ((k : ℕ) → k < l.i → get_or l.b-items k 0 ≡ get_or (be g.row.N l.x) k 0)
