-- `Register::update` meets its contract, for 128 bits and for 80.
use Rattle.present_schedule.proofs.Updates.{q80, x80, q128, y128, wide_updated, narrow_updated, narrow_low}
use borrow.Author.Rules.{rules}
use Rattle.present_schedule.proofs.Register.update.Goals as goal

pub box_at-a-requires : goal.box_at-a-requires
box_at-a-requires c = let r = c.self.inside in q128 r.high r.low 0 (search rules) (search rules)

pub overflow_add-y : goal.overflow_add-y
overflow_add-y c = let r = c.self.inside in record { fits = y128 r.high r.low 0 (search rules) (search rules) }

pub invariant_of-result : goal.invariant_of-result
invariant_of-result c =
    let r = c.self.inside in
    (wide_updated r.high r.low c.args.i r.wide c.if-wide.true (search rules) (search rules) c.box_at-a.ensures.0 c.box_at-b.ensures.0).low_lt

pub returns-then-wide : goal.returns-then-wide
returns-then-wide c =
    let r = c.self.inside in
    rw (← c.self.view_is)
    (wide_updated r.high r.low c.args.i r.wide c.if-wide.true (search rules) (search rules) c.box_at-a.ensures.0 c.box_at-b.ensures.0)

pub box_at-c-requires : goal.box_at-c-requires
box_at-c-requires c = let r = c.self.inside in q80 r.high r.low 0 (search rules) (narrow_low r.low r.wide c.if-wide.false c.self.invariant)

pub overflow_add-x-3 : goal.overflow_add-x-3
overflow_add-x-3 c = let r = c.self.inside in record { fits = x80 r.high r.low c.box_at-c.result (search rules) c.box_at-c.ensures.1 }

pub invariant_of-result-2 : goal.invariant_of-result-2
invariant_of-result-2 c =
    let r = c.self.inside in
    (narrow_updated r.high r.low c.args.i r.wide c.if-wide.false (search rules) c.self.invariant c.box_at-c.ensures.0).low_lt

pub returns : goal.returns
returns c =
    let r = c.self.inside in
    rw (← c.self.view_is)
    (narrow_updated r.high r.low c.args.i r.wide c.if-wide.false (search rules) c.self.invariant c.box_at-c.ensures.0)
