use mathlib.Core.Path.{◌∙◌}
use Rattle.octets.proofs.Each.{map_same}
use Rattle.mcrypton.proofs.Remaining.{from_first, walked_encrypt}
use Rattle.mcrypton.proofs.encrypt_all.Goals as goal

pub walk_all-requires : goal.walk_all-requires
walk_all-requires c = from_first _ c.requires

pub returns : goal.returns
returns c = c.walk_all.ensures ∙ map_same _ _ (walked_encrypt 0 c.args.u) c.args.a.now
