-- `cipher::decrypt_blocks_mcrypton` meets its contract.
use mathlib.Core.Path.{ap, ◌∙◌}
use mathlib.Core.List.{map, map-map}
use Rattle.schedule.specs.Schedule.{back_start}
use Rattle.schedule.specs.declared.Register.{Register}
use Rattle.mcrypton.specs.Bytes.{words_of, bytes_of}
use Rattle.mcrypton.specs.Registers.{decrypt_from}
use Rattle.cipher.specs.Field.{blocks}
use Rattle.cipher.specs.Key.{key_register, mcrypton_decrypted}
use Rattle.cipher.proofs.decrypt_blocks_mcrypton.Goals as goal

pub decrypt_all-requires : goal.decrypt_all-requires
unfolding back_start
decrypt_all-requires c = ap (λ (u : Register). u.round) c.backward_start.ensures

pub returns : goal.returns
unfolding mcrypton_decrypted
returns c =
    let b = blocks 24 c.args.s.now in
    let u = back_start (key_register c.args.k) in
    c.field_bytes.ensures
    ∙ rw (c.decrypt_all.ensures, c.backward_start.ensures, c.register.ensures, c.field_words-a.ensures)
    (ap (map bytes_of) (map-map (decrypt_from 0 u) words_of b) ∙ map-map bytes_of (λ x. decrypt_from 0 u (words_of x)) b)
