use Rattle.verdicts.proofs.Verdicts.{count_at_most}
use Rattle.verdicts.proofs.blank_span.Goals as goal

pub blank_size-requires : goal.blank_size-requires
blank_size-requires c = search count_at_most
