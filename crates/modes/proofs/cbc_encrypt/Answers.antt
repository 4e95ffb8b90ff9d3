-- `modes::cbc_encrypt` meets its contract. The loop's invariant: j blocks are encrypted.
use borrow.Author.Rules.{rules}
use Rattle.modes.proofs.Chaining.{chained_none, encrypt_more, encrypt_end}
use Rattle.modes.proofs.cbc_encrypt.Goals as goal

pub loop-j-init : goal.loop-j-init
loop-j-init c = search (chained_none, rules)

pub loop-j-preserved : goal.loop-j-preserved
loop-j-preserved c =
    (encrypt_more _ _ _ _ _ _ _ _ _ _ _ c.loop-j.invariant.0 (search rules) c.block_at.ensures c.xor_block.ensures c.encrypt-c.ensures (search rules) c.copy_part.ensures (search rules), search rules)

pub returns : goal.returns
returns c = search (encrypt_end, rules)
