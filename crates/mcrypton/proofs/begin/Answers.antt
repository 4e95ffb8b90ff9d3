use mathlib.Core.Path.{◌≡◌, ap, ◌∙◌}
use Rattle.schedule.specs.Schedule.{back_start}
use Rattle.mcrypton.specs.Bytes.{words_of}
use Rattle.mcrypton.proofs.Remaining.{begins}
use Rattle.mcrypton.specs.Walks.{begun_by}
use Rattle.mcrypton.proofs.begin.Goals as goal

pub returns-in-Encrypt : goal.returns-in-Encrypt
returns-in-Encrypt c =
    let e : c.start-u.result ≡ begun_by c.args.d (words_of c.args.key.now) = rw c.in-Encrypt.is c.start-u.ensures in
    (e, begins _ _ e)

pub returns-in-Decrypt : goal.returns-in-Decrypt
returns-in-Decrypt c =
    let e : c.backward_start.result ≡ begun_by c.args.d (words_of c.args.key.now) = rw c.in-Decrypt.is (c.backward_start.ensures ∙ ap back_start c.start-u.ensures) in
    (e, begins _ _ e)
