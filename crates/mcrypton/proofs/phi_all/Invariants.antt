-- `mcrypton::phi_all` meets its contract. The loop's invariant: what remains is what there was to do.
use mathlib.Core.Path.{◌≡◌}
use mathlib.Core.List.{[], map}
use Rattle.rounds.specs.Array.{φ}
use Rattle.octets.proofs.Each.{each}
use Rattle.mcrypton.proofs.phi_all.Given as goal

abbrev pub invariant-loop-x : goal.invariant-loop-x
invariant-loop-x l = each [] φ l.x-index l.a l.a ≡ map φ l.initial.a
