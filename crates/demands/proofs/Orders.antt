-- What is said of the running order's call holds.
use Rattle.running_order.proofs.Laws.{running_order_lem}
use native.Mathlib.Omega.{arith}
use Rattle.demands.specs.Orders.{Orders}
use Rattle.demands.proofs.Demand1.{NoZero, decides}

pub orders : Orders
unfolding NoZero
orders =
    record {
      running_order_lem = λ s t x out. decides ((λ e. omega (arith, e)), tt) (running_order_lem.calls.exactly s t x out) (running_order_lem.calls.refused s t x out);
      running_orders = running_order_lem;
    }
