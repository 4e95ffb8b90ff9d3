use Rattle.captions_c.proofs.Crossing.{crosses_plain}
use Rattle.captions_c.proofs.AnswerFromCaptionsAnswer.from.Goals as goal

pub returns : goal.returns
returns c = crosses_plain _ _ c.from-p.ensures
