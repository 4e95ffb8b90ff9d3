-- `mcrypton::round_all` meets its contract. The loop's invariant: what remains is what there was to do.
use mathlib.Core.Path.{◌≡◌}
use mathlib.Core.List.{[], map}
use Rattle.rounds.specs.Array.{word_round}
use Rattle.octets.proofs.Each.{each}
use Rattle.mcrypton.proofs.round_all.Given as goal

abbrev pub invariant-loop-x : goal.invariant-loop-x
invariant-loop-x l = each [] (word_round l.d l.k) l.x-index l.a l.a ≡ map (word_round l.d l.k) l.initial.a
