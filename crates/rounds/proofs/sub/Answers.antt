use mathlib.Core.Path.{ap}
use Prim.Native.Nat.{ℕ, ◌%◌}
use mathlib.Core.List.{[]}
use lib.ListN.{get_or}
use Rattle.rounds.specs.Array.{sboxes}
use Rattle.rounds.proofs.Steps.{sub_is}
use Rattle.rounds.proofs.sub.Goals as goal

pub returns : goal.returns
unfolding sboxes
returns c = let w = sub_is c.args.s c.args.x c.requires (ap (λ (n : ℕ). get_or (get_or sboxes (c.args.s % 4) []) n 0) c.from.ensures) in record { entry = w.0; small = w.1 }
