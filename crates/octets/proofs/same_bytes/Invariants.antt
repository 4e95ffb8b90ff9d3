-- `octets::same_bytes` meets its contract. The loop's invariant: x is zero and the bytes still to come are equal exactly where all bytes are.
use Rattle.std.proofs.Common.{◌≡◌, ◌&&◌, eqb, length}
use Rattle.octets.specs.Bytes.{same}
use Rattle.octets.proofs.same_bytes.Given as goal

abbrev pub invariant-loop-y : goal.invariant-loop-y
invariant-loop-y l =
    (eqb l.x 0 && same l.y-iterator.a.rest.now l.y-iterator.b.rest.now ≡ same l.a l.b)
    × (length l.y-iterator.a.rest.now ≡ length l.y-iterator.b.rest.now)
