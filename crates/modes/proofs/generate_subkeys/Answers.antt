-- `modes::generate_subkeys` meets its contract.
use borrow.Author.Rules.{rules}
use Rattle.modes.proofs.Subkeys.{L_is, K1_is, K2_is}
use Rattle.modes.proofs.generate_subkeys.Goals as goal

pub returns : goal.returns
returns c = record { l = search (L_is, rules); k1 = search (K1_is, rules); k2 = search (K2_is, rules) }
