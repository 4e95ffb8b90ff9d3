use mathlib.Core.Path.{ap, ◌∙◌}
use Rattle.rounds.specs.Array.{sbox}
use Rattle.rounds.proofs.sub_nibble.Goals as goal

pub returns : goal.returns
returns c = record { entry = c.sub.ensures.entry ∙ ap (sbox 0) c.nibble.ensures.value; small = c.sub.ensures.small }
