-- `octets::number` meets its contract.
use Rattle.std.proofs.Common.{refl, arith}
use Rattle.octets.specs.Bytes.{number}
use Rattle.octets.proofs.Numbers.{number_next, number_below, number_fits, number_all, number_small}
use Rattle.octets.proofs.number.Goals as goal

pub loop-b-init : goal.loop-b-init
unfolding number
loop-b-init g c = (refl, omega arith)

pub overflow_mul-x : goal.overflow_mul-x
overflow_mul-x g c =
    omega (arith, number_fits c.args.s.now c.args.a g.row.N c.requires.0 c.type_inv.s c.loop-b.b-index c.loop-b.x c.loop-b-test.true c.requires.1 c.loop-b.invariant.1)

pub overflow_add-x : goal.overflow_add-x
overflow_add-x g c =
    omega (arith, c.from.ensures, number_fits c.args.s.now c.args.a g.row.N c.requires.0 c.type_inv.s c.loop-b.b-index c.loop-b.x c.loop-b-test.true c.requires.1 c.loop-b.invariant.1)

pub loop-b-preserved : goal.loop-b-preserved
loop-b-preserved g c =
    rw c.from.ensures (
      number_next c.args.s.now c.args.a g.row.N c.requires.0 c.type_inv.s c.loop-b.b-index c.loop-b.x c.loop-b-test.true c.loop-b.invariant.0,
      number_below c.args.s.now c.args.a g.row.N c.requires.0 c.type_inv.s c.loop-b.b-index c.loop-b.x c.loop-b-test.true c.loop-b.invariant.1,
    )

pub returns : goal.returns
returns g c =
    record {
      value = number_all c.args.s.now c.args.a g.row.N c.requires.0 c.type_inv.s c.loop-b.b-index c.loop-b.x c.loop-b.auto.b-index-end c.loop-b-test.false c.loop-b.invariant.0;
      small = number_small c.args.s.now c.args.a g.row.N c.requires.0 c.type_inv.s c.loop-b.b-index c.loop-b.x c.loop-b.auto.b-index-end c.loop-b-test.false c.loop-b.invariant.1;
    }
