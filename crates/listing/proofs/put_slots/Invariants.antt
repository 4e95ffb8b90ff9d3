-- `listing::put_slots` meets its contract. The loop's invariant: the lines of the slots below i are put.
use Prim.Native.Nat.{◌+◌, ◌*◌, ◌≤◌}
use mathlib.Core.Path.{◌≡◌}
use mathlib.Core.List.{◌++◌}
use lib.ListN.{length}
use Rattle.listing.specs.Listing.{slot_lines}
use Rattle.listing.proofs.put_slots.Given as goal

abbrev pub invariant-loop-i : goal.invariant-loop-i
invariant-loop-i l = record { text : l.text ≡ l.initial.text ++ slot_lines l.sheet l.i; short : length l.text ≤ length l.initial.text + 41 * l.i }
