-- `octets::number` meets its contract. The loop's invariant: x is the number that the bytes so far spell.
use Rattle.std.proofs.Common.{◌≡◌, ◌^◌, ◌<◌, take}
use Rattle.octets.specs.Bytes.{number}
use Rattle.octets.proofs.number.Given as goal

abbrev pub invariant-loop-b : goal.invariant-loop-b
invariant-loop-b g l = (l.x ≡ number (take l.b-index l.b-items)) × (l.x < 256 ^ l.b-index)
