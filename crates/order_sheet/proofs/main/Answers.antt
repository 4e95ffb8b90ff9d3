-- `order_sheet::main` meets its contract. What is put is within the text.
use native.Mathlib.Omega.{arith}
use Prim.Native.Nat.{◌≤◌}
use mathlib.Core.Path.{sym}
use lib.ListN.{length}
use lib.Seq.{length-take-le}
use Rattle.running_order.proofs.Whole.{put_within}
use Rattle.order_sheet.proofs.main.Goals as goal

pub slice_bounds-text-end : goal.slice_bounds-text-end
slice_bounds-text-end c = let w : c.in-Some.k ≤ length c.order.new.out = put_within _ _ _ _ _ _ c.order.ensures _ c.in-Some.is in omega (arith, c.from.ensures)

pub slice_bounds-write_all-end : goal.slice_bounds-write_all-end
slice_bounds-write_all-end c =
    let w : c.in-Some.k ≤ length c.order.new.out = put_within _ _ _ _ _ _ c.order.ensures _ c.in-Some.is in
    sym (length-take-le _ _ (omega (arith, c.from.ensures)))
