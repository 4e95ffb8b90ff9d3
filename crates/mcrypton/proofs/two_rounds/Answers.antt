use mathlib.Core.Path.{ap, ◌∙◌}
use native.Mathlib.Omega.{arith}
use Rattle.mcrypton.proofs.Remaining.{reached_same}
use Rattle.mcrypton.specs.Walks.{step}
use Rattle.mcrypton.proofs.two_rounds.Goals as goal

pub returns : goal.returns
returns c =
    let d = c.args.d in (
      reached_same c.step-v2.ensures.1 (omega arith),
      record {
        steps = c.step-v2.ensures.0 ∙ ap (step d) c.step-v1.ensures.0;
        rounds = rw (← c.step-v1.ensures.0, ← c.key.ensures, ← c.key-2.ensures, ← c.word_round-a1.ensures) c.word_round-a2.ensures;
      },
    )
