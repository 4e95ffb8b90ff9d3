use Rattle.octets.proofs.BlockCalls.{wrong_key_lem, wrong_block, wrong_output}
use Rattle.present.proofs.tested.Goals as goal
use Rattle.present.proofs.tested.Goals.{then-block-ne8-via-then-block-ne8, then-block-ne8-via-else-block-ne8+then-out-ne8}

pub returns-then-not-key_length : goal.returns-then-not-key_length
returns-then-not-key_length c = λ new. wrong_key_lem _ _ _ _ new _ c.key_length.ensures c.if-not-key_length.true

pub returns-then-block-ne8 : goal.returns-then-block-ne8
returns-then-block-ne8 c =
    λ new.
    elim c.then-block-ne8.branch [
      | then-block-ne8-via-then-block-ne8 w ↦ wrong_block _ _ _ _ new _ c.key_length.ensures c.if-not-key_length.false w.if-block-ne8.true
      | then-block-ne8-via-else-block-ne8+then-out-ne8 w ↦ wrong_output _ _ _ _ new _ c.key_length.ensures c.if-not-key_length.false w.if-block-ne8.false w.if-out-ne8.true
    ]
