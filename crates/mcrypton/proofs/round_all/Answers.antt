-- `mcrypton::round_all` meets its contract. The loop's invariant: what remains is what there was to do.
use mathlib.Core.List.{[]}
use mathlib.Core.Path.{sym, ◌∙◌}
use Rattle.rounds.specs.Array.{word_round}
use Rattle.octets.proofs.Each.{each_none, each_here, each_all}
use borrow.Author.Rules.{rules}
use Rattle.mcrypton.proofs.round_all.Goals as goal

pub loop-x-init : goal.loop-x-init
loop-x-init c = search (each_none, rules)

pub loop-x-preserved : goal.loop-x-preserved
loop-x-preserved c = let l = c.loop-x in each_here [] (word_round c.args.d c.args.k) l.x-index _ (search rules) c.word_round.ensures ∙ l.invariant

pub returns : goal.returns
returns c = let l = c.loop-x in sym (each_all [] (word_round c.args.d c.args.k) l.x-index l.a _ (search rules) (search rules)) ∙ l.invariant
