-- `octets::same_bytes` meets its contract.
use Rattle.std.proofs.Common.{◌≡◌, ◌∙◌, length, ap, arith, inl, inr}
use borrow.Author.Rules.{rules}
use Rattle.octets.proofs.Compare.{same_length, same_next, same_end}
use Rattle.octets.proofs.same_bytes.Goals as goal

pub returns-then-a-b : goal.returns-then-a-b
returns-then-a-b c = search (same_length, rules)

pub loop-y-preserved : goal.loop-y-preserved
loop-y-preserved c =
    let e = c.in-Some.ensures.steps in
    (same_next _ _ _ _ _ _ _ _ e.0 e.1 c.loop-y.invariant.0, omega (arith, ap length e.0, ap length e.1, c.loop-y.invariant.1))

pub returns : goal.returns
returns c =
    let none : length c.loop-y.y-iterator.a.rest.now ≡ 0 =
    elim c.in-None.ensures.steps [ inl e ↦ e.1.0 | inr e ↦ c.loop-y.invariant.1 ∙ e.1.0 ] in
    same_end _ _ _ _ none c.loop-y.invariant.1 c.loop-y.invariant.0
