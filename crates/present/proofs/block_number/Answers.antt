use borrow.Author.Rules.{rules}
use Rattle.present.proofs.EightBytes.{eight_number}
use Rattle.present.proofs.block_number.Goals as goal

pub returns : goal.returns
returns c = eight_number c.args.b _ (search rules) (search rules) (search rules) c.from_be_bytes.ensures
