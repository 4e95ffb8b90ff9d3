-- `modes::put_plain` meets its contract.
use mathlib.Core.Path.{◌≡◌, sym, ap, ◌∙◌}
use lib.ListN.{length}
use Rattle.octets.specs.Bytes.{put}
use borrow.Author.Rules.{rules}
use Rattle.modes.proofs.put_plain.Goals as goal

pub returns : goal.returns
returns c = let sized : length c.xor_block-plain.result ≡ 8 = search rules in record { text = c.copy_part.ensures ∙ ap (put _ _) c.xor_block-plain.ensures; size = sym (ap length c.xor_block-plain.ensures) ∙ sized }
