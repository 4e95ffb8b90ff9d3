-- `modes::decrypt_one` meets its contract.
use mathlib.Core.Path.{refl}
use Rattle.cipher.specs.Key.{decrypted}
use Rattle.modes.specs.Cbc.{cbc_decrypt}
use Rattle.modes.proofs.Chaining.{chained_none, decrypt_more, decrypt_end}
use borrow.Author.Rules.{rules}
use Rattle.modes.proofs.decrypt_one.Goals as goal

pub returns : goal.returns
returns c =
    let a = c.args in
    let p = c.put_plain in
    let h = decrypt_more (decrypted a.k) 1 a.c a.s.now _ _ _ _ _ _ 0 (chained_none (cbc_decrypt (decrypted a.k)) 1 a.c a.s.now a.out.now) (search rules) c.block_at.ensures c.decrypt-d.ensures refl p.ensures.size p.ensures.text c.requires.1 in
    decrypt_end (decrypted a.k) 1 a.c a.s.now _ _ 1 h (search rules) (search rules) (search rules)
