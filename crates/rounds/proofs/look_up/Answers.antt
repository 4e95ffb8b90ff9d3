use Rattle.rounds.specs.Array.{entry, tables}
use Rattle.rounds.proofs.look_up.Goals as goal

pub returns-in-Encrypt : goal.returns-in-Encrypt
unfolding entry tables
returns-in-Encrypt c = rw (c.in-Encrypt.is, c.from.ensures)

pub returns-in-Decrypt : goal.returns-in-Decrypt
unfolding entry tables
returns-in-Decrypt c = rw (c.rotate.ensures, c.in-Decrypt.is, c.from.ensures)
