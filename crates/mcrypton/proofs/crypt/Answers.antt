use mathlib.Core.Path.{◌∙◌}
use Rattle.octets.proofs.BlockCalls.{wrong_key_lem, wrong_block, wrong_output, accepted}
use Rattle.mcrypton.specs.Bytes.{words_of}
use Rattle.mcrypton.specs.Walks.{begun_by, walked}
use Rattle.mcrypton.proofs.Calls.{through_bytes, as_call}
use Rattle.mcrypton.proofs.crypt.Goals as goal

pub returns-then-not-key_length : goal.returns-then-not-key_length
returns-then-not-key_length c =
    let s = c.args in
    wrong_key_lem _ s.key.now s.block.now s.out.now _ _ c.key_length.ensures c.if-not-key_length.true ∙ as_call s.d s.path s.key.now s.block.now s.out.now

pub returns-then-block-ne8 : goal.returns-then-block-ne8
returns-then-block-ne8 c =
    let s = c.args in
    wrong_block _ s.key.now s.block.now s.out.now _ _ c.key_length.ensures c.if-not-key_length.false c.if-block-ne8.true ∙ as_call s.d s.path s.key.now s.block.now s.out.now

pub returns-then-out-ne8 : goal.returns-then-out-ne8
returns-then-out-ne8 c =
    let s = c.args in
    wrong_output _ s.key.now s.block.now s.out.now _ _ c.key_length.ensures c.if-not-key_length.false c.if-block-ne8.false c.if-out-ne8.true ∙ as_call s.d s.path s.key.now s.block.now s.out.now

pub returns : goal.returns
returns c =
    let s = c.args in
    accepted _ s.key.now s.block.now s.out.now _ _ c.key_length.ensures c.if-not-key_length.false c.if-block-ne8.false c.if-out-ne8.false c.put_block.ensures
    (through_bytes (walked s.d s.path) (begun_by s.d (words_of s.key.now)) _ s.block.now _ _ c.begin.ensures.0 c.if-block-ne8.false c.block_at-b.ensures c.chosen.ensures)
    ∙ as_call s.d s.path s.key.now s.block.now s.out.now
