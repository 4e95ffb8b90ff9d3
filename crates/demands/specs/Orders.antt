-- The running order's call: when it is refused, which text it puts, and calls in plain values.
use Rattle.std.specs.Prelude.{ℕ, ◌<◌, List, [], ◌∷◌, length}
use Rattle.octets.specs.Clauses.{◌when◌}
use Rattle.octets.specs.BlockCalls as Blocks
use Rattle.running_order.specs.Order.{running_order}
use Rattle.running_order.specs.Calls.{ordering}
use Rattle.running_order.specs.Laws.{RunningOrder}
use Rattle.demands.specs.Demand1.{Decides}

pub record Orders : Type 0 where
  -- the running order for the date in the text x: 3, where the output is too short for the text. "unfit" and "no such date" are texts
  pub running_order_lem : (s t x out : List ℕ)
      → Decides (ordering s t x out).number ((3 when (length out < length (running_order s t x))) ∷ []) (Blocks.Leaves (ordering s t x out) out)
  -- which text a running order is, with calls in plain values
  pub running_orders : RunningOrder
