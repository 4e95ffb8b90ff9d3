use Rattle.rounds.proofs.Rotation.{shift_rotate}
use borrow.Author.Rules.{rules}
use Rattle.rounds.proofs.rotate.Goals as goal

pub returns : goal.returns
returns c = shift_rotate c.args.k c.args.w (search rules) (search rules)
