-- `panels::counter_mode` meets its contract. The loop's invariant: i times 256 bytes are done, whole blocks, and the rest is still to do from the counter c.
use Rattle.std.proofs.Common.{◌≡◌, ◌*◌, ◌++◌, length, take, drop}
use Rattle.panels.specs.Ctr.{ctr}
use Rattle.panels.specs.Steps.{encrypted_from}
use Rattle.panels.proofs.counter_mode.Given as goal

abbrev pub invariant-loop-i : goal.invariant-loop-i
invariant-loop-i l = (ctr (encrypted_from l.u) l.first l.p ≡ take (256 * l.i) l.out ++ ctr (encrypted_from l.u) l.c (drop (256 * l.i) l.p)) × (l.u.round ≡ 0) × (length l.out ≡ length l.p)
