use mathlib.Core.Path.{◌≡◌}
use Rattle.mcrypton.specs.Walks.{step}
use Rattle.mcrypton.proofs.Remaining.{may_forward, may_backward, stepped}
use Rattle.mcrypton.proofs.step.Goals as goal

pub forward-requires : goal.forward-requires
forward-requires c = may_forward _ _ _ c.requires.0 c.in-Encrypt.is c.requires.1

pub returns-in-Encrypt : goal.returns-in-Encrypt
returns-in-Encrypt c =
    let e : c.forward.result ≡ step c.args.d c.args.v = rw c.in-Encrypt.is c.forward.ensures in
    (e, stepped _ _ _ c.requires.0 c.requires.1 e)

pub backward-requires : goal.backward-requires
backward-requires c = may_backward _ _ _ c.requires.0 c.in-Decrypt.is c.requires.1

pub returns-in-Decrypt : goal.returns-in-Decrypt
returns-in-Decrypt c =
    let e : c.backward.result ≡ step c.args.d c.args.v = rw c.in-Decrypt.is c.backward.ensures in
    (e, stepped _ _ _ c.requires.0 c.requires.1 e)
