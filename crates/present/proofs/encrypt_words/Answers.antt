use mathlib.Core.Path.{ap, ap₂, ◌∙◌}
use Rattle.octets.specs.Bytes.{be}
use Rattle.present.specs.Present.{encrypt}
use Rattle.present_schedule.specs.Registers.{keys_from}
use Rattle.present.specs.Registers.{encrypt_words}
use Rattle.present.proofs.encrypt_words.Goals as goal

pub returns : goal.returns
unfolding encrypt_words
returns c =
    c.block_bytes.ensures
    ∙ ap (be 8) (c.encrypt_from.ensures ∙ ap₂ (λ u b. encrypt (keys_from u) b) c.key_register.ensures c.block_number.ensures)
