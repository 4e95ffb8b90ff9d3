use mathlib.Core.Path.{◌∙◌}
use Rattle.octets.proofs.Each.{map_same}
use Rattle.mcrypton.proofs.Remaining.{from_last, walked_decrypt}
use Rattle.mcrypton.proofs.decrypt_all.Goals as goal

pub walk_all-requires : goal.walk_all-requires
walk_all-requires c = from_last _ c.requires

pub returns : goal.returns
returns c = c.walk_all.ensures ∙ map_same _ _ (walked_decrypt 0 c.args.u) c.args.a.now
