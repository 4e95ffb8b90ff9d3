-- `octets::bytes` meets its contract.
use Rattle.std.proofs.Common.{arith, ◌∙◌, sym}
use Rattle.std.proofs.lemmas.Grind.{common_steps}
use Rattle.std.proofs.lemmas.List.{ext_get_or, length-replicate}
use Rattle.octets.proofs.Numbers.{be_at, length_be}
use Rattle.octets.proofs.bytes.Goals as goal

pub loop-i-init : goal.loop-i-init
loop-i-init g c = (length-replicate g.row.N 0, λ k l. absurd (omega arith))

pub loop-i-preserved : goal.loop-i-preserved
loop-i-preserved g c = grind (arith, common_steps, be_at)

pub returns : goal.returns
returns g c =
    ext_get_or 0 _ _ (c.loop-i.invariant.0 ∙ sym (length_be g.row.N c.args.x)) (λ i l. c.loop-i.invariant.1 i (omega arith))
