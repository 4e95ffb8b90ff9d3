use mathlib.Core.Path.{◌∙◌}
use Rattle.captions_c.proofs.captions_bench_block.Goals as goal

pub returns : goal.returns
returns c = c.from.ensures _ ∙ c.bench_block-a.ensures
