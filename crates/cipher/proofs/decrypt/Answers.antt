use mathlib.Core.Path.{◌∙◌}
use Rattle.cipher.proofs.Dispatch.{decrypt_present, decrypt_mcrypton}
use Rattle.cipher.proofs.decrypt.Goals as goal

pub returns-then-present_class : goal.returns-then-present_class
returns-then-present_class c = c.decrypt_words.ensures ∙ decrypt_present c.args.k c.present_class.ensures c.if-present_class.true _

pub returns-else-present_class : goal.returns-else-present_class
returns-else-present_class c = c.decrypt_mcrypton.ensures ∙ decrypt_mcrypton c.args.k c.present_class.ensures c.if-present_class.false _
