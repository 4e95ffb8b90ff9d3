use mathlib.Core.Path.{ap, ap₂, ◌∙◌}
use Rattle.schedule.specs.Schedule.{back_start}
use Rattle.schedule.specs.declared.Register.{Register}
use Rattle.mcrypton.specs.Bytes.{bytes_of}
use Rattle.mcrypton.specs.Registers.{decrypt_from}
use Rattle.cipher.specs.Key.{mcrypton_decrypted}
use Rattle.cipher.proofs.decrypt_mcrypton.Goals as goal

pub decrypt_words-requires : goal.decrypt_words-requires
unfolding back_start
decrypt_words-requires c = ap (λ (u : Register). u.round) c.backward_start.ensures

pub returns : goal.returns
unfolding mcrypton_decrypted
returns c = c.block_bytes.ensures ∙ ap bytes_of (c.decrypt_words.ensures ∙ ap₂ (decrypt_from 0) (c.backward_start.ensures ∙ ap back_start c.register.ensures) c.block_words-words.ensures)
