use mathlib.Core.Path.{ap, ◌∙◌}
use Rattle.schedule.specs.declared.Register.{Register}
use Rattle.mcrypton.specs.Bytes.{words_of, bytes_of}
use Rattle.mcrypton.specs.Registers.{encrypt_from}
use Rattle.cipher.specs.Key.{key_register, mcrypton_encrypted}
use Rattle.cipher.proofs.encrypt_mcrypton.Goals as goal

pub encrypt_bytes-requires : goal.encrypt_bytes-requires
unfolding key_register
encrypt_bytes-requires c = ap (λ (u : Register). u.round) c.register.ensures

pub returns : goal.returns
unfolding mcrypton_encrypted
returns c = c.encrypt_bytes.ensures ∙ ap (λ (u : Register). bytes_of (encrypt_from 0 u (words_of c.args.b))) c.register.ensures
