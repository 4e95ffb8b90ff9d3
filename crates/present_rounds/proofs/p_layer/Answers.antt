use mathlib.Core.Path.{ap, ◌∙◌}
use Rattle.present_rounds.specs.Layers.{inverse_pLayer}
use Rattle.present_rounds.proofs.Layers.{inverse_pLayer_twice}
use Rattle.present_rounds.proofs.p_layer.Goals as goal

pub returns : goal.returns
returns c = c.inverse_p_layer-2.ensures ∙ ap inverse_pLayer c.inverse_p_layer.ensures ∙ inverse_pLayer_twice c.args.s
