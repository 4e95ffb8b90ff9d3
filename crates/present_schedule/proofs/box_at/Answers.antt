use Rattle.present_schedule.proofs.Updates.{box_at_is}
use Rattle.present_schedule.proofs.box_at.Goals as goal

pub returns : goal.returns
returns c = box_at_is c.args.x c.requires
