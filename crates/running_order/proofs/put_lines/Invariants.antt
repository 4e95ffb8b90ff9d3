-- `running_order::put_lines` meets its contract. The loop's invariant: the lines of the numbers below the index are put.
use Prim.Native.Nat.{◌*◌, ◌%◌, ◌≤◌}
use mathlib.Core.Path.{◌≡◌}
use mathlib.Core.List.{map}
use lib.ListN.{length, take}
use Rattle.running_order.specs.Order.{show_lines}
use Rattle.running_order.proofs.put_lines.Given as goal

abbrev pub invariant-loop-number : goal.invariant-loop-number
invariant-loop-number l = record { text : l.text ≡ show_lines l.sheet l.terms (map (λ k. k % 256) (take l.number-index l.numbers)); short : length l.text ≤ 34 * l.number-index }
