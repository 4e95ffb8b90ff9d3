-- `modes::shift_left` meets its contract.
use mathlib.Core.Path.{◌∙◌}
use borrow.Author.Rules.{rules}
use Rattle.present.proofs.EightBytes.{eight_bytes, eight_number}
use Rattle.modes.proofs.Subkeys.{shift_eight}
use Rattle.modes.proofs.shift_left.Goals as goal

pub returns : goal.returns
returns c =
    c.to_be_bytes.ensures
    ∙ eight_bytes _
    ∙ shift_eight c.args.b _ (search rules) (search rules) (eight_number c.args.b _ (search rules) (search rules) (search rules) c.from_be_bytes.ensures)
