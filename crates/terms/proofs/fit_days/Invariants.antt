-- `terms::fit_days` meets its contract. The loop's invariant: the days below j are at most the last.
use mathlib.Core.Path.{◌≡◌}
use mathlib.Core.Bool.{true}
use Rattle.octets.specs.Bytes.{all_below}
use Rattle.terms.specs.Inner.{day_fits}
use Rattle.terms.proofs.fit_days.Given as goal

abbrev pub invariant-loop-j : goal.invariant-loop-j
invariant-loop-j l = all_below l.j (day_fits l.t) ≡ true
