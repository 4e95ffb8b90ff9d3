-- `mcrypton::chosen` meets its contract: words alone give what any path gives.
use mathlib.Core.Path.{sym, ap, ◌∙◌}
use Rattle.rounds.specs.declared.Direction.TheVariants.{Encrypt, Decrypt}
use Rattle.mcrypton.specs.Bytes.{bytes_of}
use Rattle.mcrypton.specs.Registers.{decrypt_from}
use Rattle.mcrypton.specs.Walks.{walked}
use Rattle.mcrypton.proofs.Remaining.{walked_encrypt, walked_decrypt, any_walk}
use Rattle.mcrypton.proofs.chosen.Goals as goal

pub returns-then-p-ne4095 : goal.returns-then-p-ne4095
returns-then-p-ne4095 c = c.block_bytes.ensures ∙ ap bytes_of (c.by_path.ensures ∙ ap (walked _ _ _) c.block_words.ensures)

pub returns-in-Encrypt : goal.returns-in-Encrypt
returns-in-Encrypt c = rw c.in-Encrypt.is (c.encrypt_bytes.ensures ∙ ap bytes_of (sym (walked_encrypt 0 _ _) ∙ any_walk Encrypt 0 c.args.p _ _))

pub returns-in-Decrypt : goal.returns-in-Decrypt
returns-in-Decrypt c =
    rw c.in-Decrypt.is (c.block_bytes-in-Decrypt.ensures
    ∙ ap bytes_of (c.decrypt_words.ensures ∙ ap (decrypt_from 0 _) c.block_words-in-Decrypt.ensures ∙ sym (walked_decrypt 0 _ _) ∙ any_walk Decrypt 0 c.args.p _ _))
