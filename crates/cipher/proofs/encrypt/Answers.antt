use mathlib.Core.Path.{◌∙◌}
use Rattle.cipher.proofs.Dispatch.{encrypt_present, encrypt_mcrypton}
use Rattle.cipher.proofs.encrypt.Goals as goal

pub returns-then-present_class : goal.returns-then-present_class
returns-then-present_class c = c.encrypt_words.ensures ∙ encrypt_present c.args.k c.present_class.ensures c.if-present_class.true _

pub returns-else-present_class : goal.returns-else-present_class
returns-else-present_class c = c.encrypt_mcrypton.ensures ∙ encrypt_mcrypton c.args.k c.present_class.ensures c.if-present_class.false _
