use mathlib.Core.List.{[]}
use mathlib.Core.Path.{sym, ◌∙◌}
use Rattle.mcrypton.specs.Bytes.{bytes_of}
use Rattle.octets.proofs.Each.{each_none, each_next, each_all}
use borrow.Author.Rules.{rules}
use Rattle.cipher.proofs.field_bytes.Goals as goal

pub loop-i-init : goal.loop-i-init
loop-i-init c = search (each_none, rules)

pub loop-i-preserved : goal.loop-i-preserved
loop-i-preserved c = let l = c.loop-i in (each_next [] bytes_of l.i _ _ (search rules) (search rules) c.block_bytes.ensures ∙ l.invariant.0, search rules)

pub returns : goal.returns
returns c = let l = c.loop-i in sym (each_all [] bytes_of l.i l.y-items _ (search rules) (search rules)) ∙ l.invariant.0
