-- `octets::copy_part` meets its contract.
use Rattle.std.proofs.Common.{refl}
use Rattle.octets.proofs.Parts.{put_span}
use Rattle.octets.proofs.copy_part.Goals as goal

pub returns : goal.returns
returns c = put_span _ _ _ _ _ c.copy_from_slice.ensures.after refl
