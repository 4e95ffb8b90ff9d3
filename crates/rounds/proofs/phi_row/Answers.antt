use Rattle.rounds.proofs.Steps.{phi_row_is}
use borrow.Author.Rules.{rules}
use Rattle.rounds.proofs.phi_row.Goals as goal

pub returns : goal.returns
returns c = phi_row_is c.args.w c.args.i (search rules) (search rules) c.rotate.ensures c.rotate-2.ensures c.rotate-3.ensures
