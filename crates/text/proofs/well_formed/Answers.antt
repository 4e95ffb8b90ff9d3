-- `text::well_formed` meets its contract.
use Rattle.std.proofs.Common.{◌∙◌}
use Rattle.text.proofs.Ways.{passed_next, passed_broken, passed_all}
use Rattle.text.proofs.well_formed.Goals as goal

pub loop-rest-preserved-then-x-lt128 : goal.loop-rest-preserved-then-x-lt128
loop-rest-preserved-then-x-lt128 c = c.after_ascii-rest.ensures.same ∙ c.loop-rest.invariant

pub loop-rest-preserved : goal.loop-rest-preserved
loop-rest-preserved c = passed_next _ _ c.loop-rest.invariant _ c.in-len1-up.len_at_least c.in-Some.ensures

pub returns-in-None : goal.returns-in-None
returns-in-None c = passed_broken _ _ c.loop-rest.invariant c.in-len1-up.len_at_least c.in-None.ensures

pub returns : goal.returns
returns c = passed_all _ _ c.loop-rest.invariant c.in_default.len_below
