use mathlib.Core.Path.{ap, ap₂, ◌∙◌}
use Rattle.octets.specs.Bytes.{be}
use Rattle.present.specs.Present.{decrypt}
use Rattle.present_schedule.specs.Registers.{keys_from}
use Rattle.present.specs.Registers.{decrypt_words}
use Rattle.present.proofs.decrypt_words.Goals as goal

pub returns : goal.returns
unfolding decrypt_words
returns c =
    c.block_bytes.ensures
    ∙ ap (be 8) (c.decrypt_from.ensures ∙ ap₂ (λ u b. decrypt (keys_from u) b) c.key_register.ensures c.block_number.ensures)
