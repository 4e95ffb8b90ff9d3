use mathlib.Core.Path.{sym, ap, ◌∙◌}
use Rattle.schedule.specs.Schedule.{round_key}
use Rattle.rounds.specs.Array.{φ}
use Rattle.mcrypton.proofs.Remaining.{with_round, number_lt}
use Rattle.mcrypton.proofs.key.Goals as goal

pub round_key-requires : goal.round_key-requires
round_key-requires c = rw c.round_number.ensures (number_lt c.args.d c.args.r c.requires.inside)

pub round_key-requires-in-Decrypt : goal.round_key-requires-in-Decrypt
round_key-requires-in-Decrypt c = rw c.round_number.ensures (number_lt c.args.d c.args.r c.requires.inside)

pub returns-in-Encrypt : goal.returns-in-Encrypt
returns-in-Encrypt c = rw c.in-Encrypt.is (c.round_key.ensures ∙ ap round_key (with_round c.args.v (c.requires.known ∙ sym c.round_number.ensures)))

pub returns-in-Decrypt : goal.returns-in-Decrypt
returns-in-Decrypt c =
    rw c.in-Decrypt.is (c.phi.ensures ∙ ap φ (c.round_key-in-Decrypt.ensures ∙ ap round_key (with_round c.args.v (c.requires.known ∙ sym c.round_number.ensures))))
