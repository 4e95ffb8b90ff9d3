-- `cipher::decrypt_blocks` meets its contract.
use mathlib.Core.Path.{◌∙◌}
use Rattle.cipher.specs.Field.{blocks}
use Rattle.cipher.proofs.Dispatch.{all_present, all_mcrypton}
use Rattle.cipher.proofs.decrypt_blocks.Goals as goal

pub returns-then-present_class : goal.returns-then-present_class
returns-then-present_class c =
    let a = c.args in
    c.decrypt_all.ensures ∙ rw c.field_blocks.ensures (all_present a.k c.present_class.ensures c.if-present_class.true (blocks 24 a.s.now))

pub returns-else-present_class : goal.returns-else-present_class
returns-else-present_class c =
    let a = c.args in
    c.decrypt_blocks_mcrypton.ensures ∙ all_mcrypton a.k c.present_class.ensures c.if-present_class.false (blocks 24 a.s.now)
