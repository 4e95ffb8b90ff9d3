use mathlib.Core.Path.{sym, ◌∙◌}
use mathlib.Core.List.{[], map-id}
use native.Mathlib.Omega.{arith}
use Rattle.octets.proofs.Each.{each_none, each_next, each_all}
use Rattle.cipher.specs.Field.{blocks}
use Rattle.cipher.proofs.Field.{length_blocks, blocks_at}
use borrow.Author.Rules.{rules}
use Rattle.cipher.proofs.field_blocks.Goals as goal

pub loop-i-init : goal.loop-i-init
loop-i-init c = (each_none [] (λ x. x) _ _ ∙ map-id _, search rules, search rules)

pub loop-i-preserved : goal.loop-i-preserved
loop-i-preserved c =
    let l = c.loop-i in
    let s = c.args.s.now in
    let y = c.block_at.ensures ∙ sym (blocks_at 24 s l.i (search rules)) in
    (each_next [] (λ x. x) l.i _ (blocks 24 s) (search rules) (omega (arith, length_blocks 24 s, c.loop-i-test.true)) y ∙ l.invariant.0, search rules, l.invariant.2)

pub returns : goal.returns
returns c =
    let l = c.loop-i in
    let s = c.args.s.now in
    sym (each_all [] (λ x. x) l.i l.x-items (blocks 24 s) (search rules) (omega (arith, length_blocks 24 s, c.loop-i-test.false))) ∙ l.invariant.0
