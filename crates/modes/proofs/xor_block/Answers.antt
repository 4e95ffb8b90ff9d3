use native.Mathlib.Omega.{arith}
use borrow.Author.Rules.{rules}
use Rattle.modes.proofs.Xor.{xor_eight}
use Rattle.modes.proofs.xor_block.Goals as goal

pub returns : goal.returns
returns c =
    let l = c.loop-i in
    xor_eight c.args.x c.args.y l.z (search rules) (search rules) l.invariant.0 (λ i h. l.invariant.1 i (omega arith))
