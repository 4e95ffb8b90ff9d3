use mathlib.Core.Path.{refl, sym}
use Rattle.std.proofs.lemmas.Result.{err_from_is_err_and}
use Rattle.octets.proofs.BlockCalls.{accepted}
use Rattle.present.specs.Calls.{encrypting}
use Rattle.present.proofs.Held.{at_most_sixteen, block_encrypts}
use Rattle.present.proofs.encrypt_block.Goals as goal

pub returns-in_err-b : goal.returns-in_err-b
unfolding encrypting
returns-in_err-b c = let p = err_from_is_err_and c.from_residual.result c.from_residual.ensures.1 in rw (p.1, p.2) (c.in_err-b.ensures _)

pub key_words-requires : goal.key_words-requires
key_words-requires c = at_most_sixteen _ c.in_ok-b.ensures.0

pub returns : goal.returns
unfolding encrypting
returns c =
    let s = c.args in
    let t = c.in_ok-b.ensures in
    accepted _ s.key.now s.block.now s.out.now _ _ (sym t.0) refl t.2 t.3 c.put_block.ensures
    (block_encrypts s.key.now s.block.now c.key_words.ensures t.0 t.1 c.encrypt_words.ensures)
